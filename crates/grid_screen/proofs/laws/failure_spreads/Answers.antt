use Rattle.grid_screen.proofs.Leasts.{failure_spreads}
use Rattle.grid_screen.proofs.laws.failure_spreads.Goals as goal

pub returns : goal.returns
returns c = failure_spreads
