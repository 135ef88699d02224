use Rattle.std.proofs.Common.{◌-◌, drop, length}
use Rattle.std.specs.Prelude.{IsTrue}
use Rattle.grid_slots.specs.Variants.{has_slot}
use Rattle.grid_slots.proofs.slots.VariantTable.place_of.Given as goal

abbrev pub invariant-loop-self : goal.invariant-loop-self
invariant-loop-self l = IsTrue (has_slot (drop l.place l.self) l.slot)

abbrev pub decreases-loop-self : goal.decreases-loop-self
decreases-loop-self l = length l.self - l.place
