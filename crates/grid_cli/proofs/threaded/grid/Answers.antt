use Rattle.grid_cli.proofs.Exact.{exact}
use Rattle.grid_cli.proofs.threaded.grid.Goals as goal

pub returns-clause-exact : goal.returns-clause-exact
returns-clause-exact g c = exact _ _ _ _ _ _ c.serve_on-status.ensures.outcome
