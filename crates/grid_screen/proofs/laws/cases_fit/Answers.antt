use Rattle.grid_screen.proofs.Cases.{cases_fit}
use Rattle.grid_screen.proofs.laws.cases_fit.Goals as goal

pub returns : goal.returns
returns c = cases_fit
