use Rattle.grid_report.proofs.RemainingText.{less_left}
use Rattle.grid_report.proofs.parallel.portion_of.Goals as goal

pub loop-weight-smaller : goal.loop-weight-smaller
loop-weight-smaller c = less_left c.in-Some.block c.loop-weight.report c.next_block.new.self c.in-Some.ensures
