use Rattle.grid_report.proofs.RemainingText.{less_given}
use Rattle.grid_report.proofs.report.ReportBlocks.next.Goals as goal

pub returns-clause-left : goal.returns-clause-left
returns-clause-left c = less_given c.next_block.result c.args.self.now c.next_block.new.self c.next_block.ensures
