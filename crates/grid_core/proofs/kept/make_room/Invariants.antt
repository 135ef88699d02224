use Rattle.std.proofs.Common.{◌+◌, ◌-◌, List, length}
use Rattle.grid_structure.specs.Network.{Network}
use Rattle.grid_slots.specs.Variant.{Variant}
use Rattle.grid_core.specs.Kept.{AreBySlot}
use Rattle.grid_core.proofs.kept.make_room.Given as goal

abbrev pub invariant-loop-alloc : goal.invariant-loop-alloc
invariant-loop-alloc l = (net : Network) (variants : List Variant) → AreBySlot net variants l.initial.all.items → AreBySlot net variants l.all.items

abbrev pub decreases-loop-alloc : goal.decreases-loop-alloc
decreases-loop-alloc l = l.slot + 1 - length l.all.items
