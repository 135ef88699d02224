use Rattle.grid_told.proofs.EqualLines.{outcomes_are_told}
use Rattle.grid_told.proofs.laws.outcomes_are_told.Goals as goal

pub returns : goal.returns
returns c = outcomes_are_told
