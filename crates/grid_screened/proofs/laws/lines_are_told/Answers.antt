use Rattle.grid_screened.proofs.Told.{lines_are_told}
use Rattle.grid_screened.proofs.laws.lines_are_told.Goals as goal

pub returns : goal.returns
returns c = lines_are_told
