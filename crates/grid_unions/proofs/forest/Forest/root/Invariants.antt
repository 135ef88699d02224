use Rattle.std.proofs.Common.{◌≡◌, ◌-◌, ◌<◌, length}
use Rattle.grid_graph.specs.Graph.{Graph, least_joined}
use Rattle.grid_unions.specs.Trees.{size_at, IsForest}
use Rattle.grid_unions.proofs.forest.Forest.root.Given as goal

abbrev pub invariant-loop-at : goal.invariant-loop-at
invariant-loop-at l = record {
  below : l.at < length l.self.parents;
  same : (net : Graph) → IsForest net l.self → least_joined net l.at ≡ least_joined net l.node;
}

abbrev pub decreases-loop-at : goal.decreases-loop-at
decreases-loop-at l = length l.self.sizes - size_at l.self l.at
