use Rattle.std.proofs.Common.{refl}
use Rattle.grid_level.specs.Passing.{is_rising}
use Rattle.grid_states.proofs.row.WattsRow.empty.Goals as goal

pub invariant_of-result : goal.invariant_of-result
unfolding is_rising
invariant_of-result c = rw c.new.ensures.items refl
