use Rattle.grid_connect.proofs.ConnectPlans.{connect_plan-IsConnectPlan}
use Rattle.grid_connect.proofs.connect_plan_is_least.Goals as goal

pub returns : goal.returns
returns c level a = connect_plan-IsConnectPlan level a
