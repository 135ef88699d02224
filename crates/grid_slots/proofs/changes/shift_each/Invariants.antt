use Rattle.std.proofs.Common.{◌≡◌}
use Rattle.grid_states.specs.Rows.{shifted}
use Rattle.grid_slots.proofs.VariantSums.{first}
use Rattle.grid_slots.proofs.changes.shift_each.Given as goal

abbrev pub invariant-loop-place : goal.invariant-loop-place
invariant-loop-place l = l.all.items ≡ first (shifted l.fn.by) l.place l.initial.all.items
