use Rattle.std.proofs.Common.{◌<◌, List, Bool, length}
use Rattle.grid_paths.specs.Search.{cost_at}
use Rattle.grid_paths.proofs.CostWalks.{IsWalked}
use Rattle.grid_paths.proofs.walk.Given as goal

abbrev pub invariant-loop-next : goal.invariant-loop-next
invariant-loop-next g l = record {
  below : l.node < length l.found;
  walked : (goals : List Bool) → IsWalked (g.N.PathNet.edges l.net) goals l.found l.from l.path l.node;
}

abbrev pub decreases-loop-next : goal.decreases-loop-next
decreases-loop-next g l = cost_at l.found l.node
