use Rattle.std.proofs.Common.{◌≡◌, map, take}
use Rattle.std.specs.List.{zip}
use Rattle.grid_level.specs.Passing.{nodes}
use Rattle.grid_groups.specs.Nets.{switch_net_edge}
use Rattle.grid_groups.proofs.nets.switch_edges.Given as goal

abbrev pub invariant-loop-place : goal.invariant-loop-place
invariant-loop-place l = l.edges.items ≡ map (λ pair. switch_net_edge (nodes l.indices) pair.0 pair.1) (take l.place (zip l.switch-items l.passes))
