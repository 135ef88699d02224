use Rattle.std.proofs.Common.{sym}
use Rattle.grid_print.specs.Network.{branch_value}
use Rattle.grid_print.proofs.network.branch.Goals as goal

pub returns-in_ok-rated_u-in-TwoWindings-clause-value : goal.returns-in_ok-rated_u-in-TwoWindings-clause-value
unfolding branch_value
returns-in_ok-rated_u-in-TwoWindings-clause-value c = rw (c.in-TwoWindings.is, sym c.in_ok-ends-in-TwoWindings.ensures.value, sym c.in_ok-rated_u-in-TwoWindings.ensures.value) c.transformer.ensures.value

pub returns-in_ok-rated_u-in-ThreeWindings-clause-value : goal.returns-in_ok-rated_u-in-ThreeWindings-clause-value
unfolding branch_value
returns-in_ok-rated_u-in-ThreeWindings-clause-value c = rw (c.in-ThreeWindings.is, sym c.in_ok-ends-in-ThreeWindings.ensures.value, sym c.in_ok-rated_u-in-ThreeWindings.ensures.value) c.transformer-in-ThreeWindings.ensures.value
