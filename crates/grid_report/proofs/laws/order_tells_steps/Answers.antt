use Rattle.grid_report.proofs.ScriptOrders.{steps_told}
use Rattle.grid_report.proofs.laws.order_tells_steps.Goals as goal

pub returns : goal.returns
returns c = steps_told
