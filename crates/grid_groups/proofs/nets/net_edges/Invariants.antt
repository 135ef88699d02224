use Rattle.std.proofs.Common.{◌≡◌, ◌++◌, map, take}
use Rattle.grid_level.specs.Passing.{nodes}
use Rattle.grid_groups.specs.Nets.{switch_net_edges, internal_net_edge}
use Rattle.grid_groups.proofs.nets.net_edges.Given as goal

abbrev pub invariant-loop-internal : goal.invariant-loop-internal
invariant-loop-internal l = l.edges.items ≡ switch_net_edges (nodes l.indices) l.indices.switches l.passes ++ map (internal_net_edge (nodes l.indices)) (take l.internal-index l.internal-items)
