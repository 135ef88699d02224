use Rattle.std.proofs.Common.{◌≡◌, ℕ, ◌<◌, Bool, List, length, Some, arith}
use Rattle.grid_graph.specs.Graph.{EndsBelow}
use Rattle.grid_islands.specs.declared.spots.BranchBuses.{BranchBuses}
use Rattle.grid_graph.proofs.Below.{pairs_below}
use Rattle.grid_graph.proofs.Reach.{neighbours_back}
use Rattle.grid_islands.specs.Spots.{pairs_of_buses}
use Rattle.grid_islands.proofs.BranchEnds.{near_one}
use Rattle.grid_islands.proofs.rejoining.stands_marked.Goals as goal

module _ (b : BranchBuses) (marks : List Bool) (below : EndsBelow (pairs_of_buses b) (length marks)) where
  first_inside : (first second : ℕ) → b.first ≡ Some first → b.second ≡ Some second → first < length marks
  first_inside first second e f = (pairs_below (length marks) (pairs_of_buses b) below).across second first (neighbours_back (pairs_of_buses b) first second (near_one b first second e f))

pub overflow_cast-result : goal.overflow_cast-result
overflow_cast-result c =
    omega (arith, first_inside c.args.branch.now c.args.marks.now c.requires c.in-Some-Some.first c.in-Some-Some.field-0-1 c.in-Some-Some.is-0 c.in-Some-Some.is-1)

pub bounds-marks-first : goal.bounds-marks-first
bounds-marks-first c = first_inside c.args.branch.now c.args.marks.now c.requires c.in-Some-Some.first c.in-Some-Some.field-0-1 c.in-Some-Some.is-0 c.in-Some-Some.is-1
