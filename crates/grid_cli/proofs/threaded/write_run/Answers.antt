use Rattle.grid_cli.proofs.ThreadReports.{reported, unwritten}
use Rattle.grid_cli.proofs.threaded.write_run.Goals as goal

pub returns-clause-written : goal.returns-clause-written
returns-clause-written g c = reported c.args.layout c.args.job c.in_ok-outcome.outcome c.write_on_threads-written.result _ _ c.in_ok-outcome.ensures c.write_on_threads-written.ensures.ok c.write_on_threads-written.ensures.err

pub returns-in_err-outcome-clause-written : goal.returns-in_err-outcome-clause-written
returns-in_err-outcome-clause-written g c = unwritten _ _ _ _ c.requires c.from_residual.ensures.0
