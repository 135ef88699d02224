use Rattle.std.proofs.Common.{List}
use Rattle.grid_structure.specs.Network.{Network}
use Rattle.grid_slots.specs.Variant.{Variant}
use Rattle.grid_core.specs.Kept.{AreBySlot}
use Rattle.grid_core.proofs.kept.empty_benches.Given as goal

abbrev pub invariant-loop-slot : goal.invariant-loop-slot
invariant-loop-slot l = (net : Network) (variants : List Variant) → AreBySlot net variants l.initial.all.items → AreBySlot net variants l.all.items
