use Rattle.grid_states.proofs.PageOrder.{none_ordered, none_seen}
use Rattle.grid_states.proofs.states.States.empty.Goals as goal

pub invariant_of-result : goal.invariant_of-result
invariant_of-result c = none_ordered c.in_ok-empty.field-0 c.empty-2.result c.in_ok-empty.ensures c.empty-2.ensures

pub returns : goal.returns
returns c = none_seen c.in_ok-empty.field-0 c.empty-2.result c.in_ok-empty.ensures
