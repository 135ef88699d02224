use Rattle.std.proofs.Common.{◌≡◌, length, take}
use Rattle.std.specs.Prelude.{flat_map}
use Rattle.grid_graph.specs.Graph.{graph}
use Rattle.grid_queue.specs.Parents.{AreLabelsOf}
use Rattle.grid_islands.specs.Spots.{pairs_of_buses}
use Rattle.grid_islands.proofs.joins.join_ends.Given as goal

abbrev pub invariant-loop-branch : goal.invariant-loop-branch
invariant-loop-branch l = record {
  long : length l.joiner ≡ l.count;
  labels : AreLabelsOf (graph l.count (flat_map pairs_of_buses (take l.branch-index l.branches))) l.joiner;
}
