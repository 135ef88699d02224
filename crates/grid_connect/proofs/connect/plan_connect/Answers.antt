use Rattle.std.proofs.Common.{sym, ◌∙◌}
use Rattle.grid_level.specs.Passing.{positioned}
use Rattle.grid_connect.proofs.PlanAnswers.{plan_connected}
use Rattle.grid_connect.proofs.connect.plan_connect.Goals as goal

pub returns-then-branch-clause-plan : goal.returns-then-branch-clause-plan
returns-then-branch-clause-plan c = sym (plan_connected (positioned c.args.level.now c.args.states.now) c.args.node (sym c.in_ok-is_connected.ensures ∙ c.if-branch.true))
