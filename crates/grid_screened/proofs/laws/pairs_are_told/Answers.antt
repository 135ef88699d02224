use Rattle.grid_screened.proofs.Told.{pairs_are_told}
use Rattle.grid_screened.proofs.laws.pairs_are_told.Goals as goal

pub returns : goal.returns
returns c = pairs_are_told
