use Rattle.grid_report.proofs.Turns.{by_workers}
use Rattle.grid_report.proofs.laws.orders_make_histories.Goals as goal

pub returns : goal.returns
returns c = by_workers
