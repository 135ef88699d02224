use Rattle.std.proofs.Common.{List}
use Rattle.grid_structure.specs.Network.{Network}
use Rattle.grid_slots.specs.Variant.{Variant}
use Rattle.grid_core.specs.Kept.{AreBySlot, AreMoved}
use Rattle.grid_core.proofs.BySlot.{FollowedTo}
use Rattle.grid_core.proofs.kept.doubt.Given as goal

abbrev pub invariant-loop-slot : goal.invariant-loop-slot
invariant-loop-slot l = (net : Network) (before after : List Variant) → AreMoved l.moved before after → AreBySlot net before l.initial.all.items → FollowedTo net after l.initial.all.items l.slot l.all.items
