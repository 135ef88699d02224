use Rattle.grid_shaped.proofs.LevelShapes.{load_shaped}
use Rattle.grid_shaped.proofs.laws.load_is_shaped.Goals as goal

pub returns : goal.returns
returns c = load_shaped
