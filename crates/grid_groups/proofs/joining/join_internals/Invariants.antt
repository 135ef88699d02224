use Rattle.std.proofs.Common.{◌≡◌, map, take, length}
use Rattle.grid_level.specs.Passing.{nodes, ends, internal_edge}
use Rattle.grid_groups.specs.Labels.{pair_by_index, Joins}
use Rattle.grid_groups.proofs.joining.join_internals.Given as goal

abbrev pub invariant-loop-internal : goal.invariant-loop-internal
invariant-loop-internal l = record {
  long : length l.joiner ≡ length l.initial.joiner;
  joined : Joins (length (nodes l.indices)) (map (pair_by_index (nodes l.indices)) (map (λ i. ends (internal_edge i)) (take l.internal-index l.internal-items))) l.initial.joiner l.joiner;
}
