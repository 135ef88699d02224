use Rattle.std.proofs.Common.{◌≡◌, ◌≤◌, map, take, length}
use Rattle.std.specs.Vec.{vec_len, vec_capacity}
use Rattle.grid_groups.specs.Labels.{items_at}
use Rattle.grid_groups.proofs.grouping.terminals_at.Given as goal

-- the terminals so far, and room for the others
abbrev pub invariant-loop-place : goal.invariant-loop-place
invariant-loop-place l = record {
  terminals : l.terminals.items ≡ map (λ p. p.terminal) (items_at l.level.placed (take l.place-index l.places));
  len : vec_len l.terminals ≡ l.place-index;
  room : length l.places ≤ vec_capacity l.terminals;
}
