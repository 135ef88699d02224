use Rattle.std.proofs.Common.{◌≡◌, map, take}
use Rattle.grid_states.specs.Rows.{with_empty}
use Rattle.grid_slots.proofs.changes.wider_states.Given as goal

abbrev pub invariant-loop-states : goal.invariant-loop-states
invariant-loop-states l = l.made.items ≡ map (λ rows. with_empty rows l.level) (take l.states-index l.all.items)
