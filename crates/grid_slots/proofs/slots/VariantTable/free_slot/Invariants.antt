use Rattle.std.proofs.Common.{ℕ, ◌<◌, ◌≤◌, ◌-◌}
use Rattle.std.specs.Prelude.{IsTrue}
use Rattle.grid_slots.specs.Variants.{has_slot}
use Rattle.grid_slots.proofs.slots.VariantTable.free_slot.Given as goal

abbrev pub invariant-loop-slot : goal.invariant-loop-slot
invariant-loop-slot l = (l.slot ≤ 64) × ((s : ℕ) → s < l.slot → IsTrue (has_slot l.self s))

abbrev pub decreases-loop-slot : goal.decreases-loop-slot
decreases-loop-slot l = 64 - l.slot
