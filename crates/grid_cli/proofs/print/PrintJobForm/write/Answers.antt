use Rattle.grid_cli.proofs.Written.{unbegun}
use Rattle.grid_cli.proofs.print.PrintJobForm.write.Goals as goal

pub returns-in_err-bytes-clause-written : goal.returns-in_err-bytes-clause-written
returns-in_err-bytes-clause-written g c = unbegun _ _ _ c.from_residual.ensures.0
