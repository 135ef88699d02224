use Rattle.grid_cli.proofs.Exact.{exact}
use Rattle.grid_cli.proofs.once.grid_once.Goals as goal

pub returns-clause-exact : goal.returns-clause-exact
returns-clause-exact g c = exact _ _ _ _ _ _ c.run-status.ensures.outcome
