use Rattle.grid_hvdc.proofs.ComponentNumbers.{told}
use Rattle.grid_hvdc.proofs.laws.synchronous_is_told.Goals as goal

pub returns : goal.returns
returns c = told
