use Rattle.grid_report.proofs.Begun.{at_start}
use Rattle.grid_configured.proofs.report.write_configured.Goals as goal

pub returns-in-Err-clause-err : goal.returns-in-Err-clause-err
returns-in-Err-clause-err g c = at_start _ _
