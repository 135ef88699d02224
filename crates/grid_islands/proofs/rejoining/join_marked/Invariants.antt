use Rattle.std.proofs.Common.{◌≡◌, length, take}
use Rattle.std.specs.Prelude.{flat_map}
use Rattle.grid_graph.specs.Graph.{Graph}
use Rattle.grid_queue.specs.Parents.{AreLabelsOf, AreParents}
use Rattle.grid_islands.specs.Spots.{with_pairs}
use Rattle.grid_islands.specs.Rejoining.{has_mark, marked_pairs}
use Rattle.grid_islands.proofs.rejoining.join_marked.Given as goal

abbrev pub invariant-loop-branch : goal.invariant-loop-branch
invariant-loop-branch l = record {
  long : length l.joiner ≡ length l.fn.labels.items;
  labels : (net : Graph) → AreParents net l.fn.labels.items → AreLabelsOf (with_pairs net (flat_map (marked_pairs (has_mark l.marks)) (take l.branch-index l.branches))) l.joiner;
}
