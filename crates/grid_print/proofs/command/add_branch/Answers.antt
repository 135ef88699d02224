use Rattle.std.proofs.Common.{sym}
use Rattle.grid_print.specs.Command.{add_branch_value}
use Rattle.grid_print.proofs.command.add_branch.Goals as goal

pub returns-in_ok-rated_u-in-TwoWindings : goal.returns-in_ok-rated_u-in-TwoWindings
unfolding add_branch_value
returns-in_ok-rated_u-in-TwoWindings c = rw (c.in-TwoWindings.is, sym c.in_ok-ends-in-TwoWindings.ensures.value, sym c.in_ok-rated_u-in-TwoWindings.ensures.value) c.add_transformer.ensures

pub returns-in_ok-rated_u-in-ThreeWindings : goal.returns-in_ok-rated_u-in-ThreeWindings
unfolding add_branch_value
returns-in_ok-rated_u-in-ThreeWindings c = rw (c.in-ThreeWindings.is, sym c.in_ok-ends-in-ThreeWindings.ensures.value, sym c.in_ok-rated_u-in-ThreeWindings.ensures.value) c.add_transformer-in-ThreeWindings.ensures
