use Rattle.std.proofs.Common.{List}
use Rattle.grid_structure.specs.Network.{Network}
use Rattle.grid_slots.specs.Variant.{Variant}
use Rattle.grid_core.specs.Kept.{AreBySlot}
use Rattle.grid_core.specs.Touched.{IsTouch}
use Rattle.grid_core.proofs.BySlot.{FollowedTo}
use Rattle.grid_core.proofs.kept.follow_slots.Given as goal

abbrev pub invariant-loop-slot : goal.invariant-loop-slot
invariant-loop-slot l = (net next : Network) (before after : List Variant) → IsTouch net next l.touched → AreBySlot net before l.initial.all.items → FollowedTo next after l.initial.all.items l.slot l.all.items
