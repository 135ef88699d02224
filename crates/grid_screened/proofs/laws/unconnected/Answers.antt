use Rattle.grid_screened.proofs.UnconnectedWatts.{unconnected}
use Rattle.grid_screened.proofs.laws.unconnected.Goals as goal

pub returns : goal.returns
returns c = unconnected
