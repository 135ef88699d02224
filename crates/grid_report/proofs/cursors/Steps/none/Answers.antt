use Rattle.std.proofs.Common.{length, arith}
use Rattle.grid_report.proofs.RemainingText.{no_step}
use Rattle.grid_report.proofs.cursors.Steps.none.Goals as goal

pub returns : goal.returns
returns c = no_step 0 1 c.args.journal.now (length c.args.journal.now) (omega arith)
