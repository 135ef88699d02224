use Rattle.std.proofs.Common.{◌≡◌, map, take}
use Rattle.grid_slots.specs.Changes.{after}
use Rattle.grid_slots.proofs.changes.changed_states.Given as goal

abbrev pub invariant-loop-states : goal.invariant-loop-states
invariant-loop-states l = l.made.items ≡ map (after l.change) (take l.states-index l.all.items)
