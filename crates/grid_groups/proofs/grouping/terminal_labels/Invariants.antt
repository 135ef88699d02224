use Rattle.std.proofs.Common.{◌≡◌, ◌≤◌, map, take, length}
use Rattle.std.specs.Vec.{vec_len, vec_capacity}
use Rattle.grid_level.specs.Passing.{nodes}
use Rattle.grid_groups.specs.Labels.{label_of}
use Rattle.grid_groups.proofs.grouping.terminal_labels.Given as goal

-- the labels so far, and room for the others
abbrev pub invariant-loop-placed : goal.invariant-loop-placed
invariant-loop-placed l = record {
  labels : l.keys.items ≡ map (λ p. label_of (nodes l.level) l.labels p.node) (take l.placed-index l.placed-items);
  len : vec_len l.keys ≡ l.placed-index;
  room : length l.placed-items ≤ vec_capacity l.keys;
}
