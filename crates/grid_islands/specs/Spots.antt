-- Where the ends of branches stand, and the pairs of buses that follow.
use Rattle.std.specs.Prelude.{ℕ, ℤ, pos, negsuc, ◌+◌, ◌<◌, ◌^◌, ◌==◌, ◌||◌, ◌≡◌, ◌≢◌, Bool, false, Option, Some, None, List, [], ◌∷◌, ◌++◌, map, position, slice_get, option_and_then}
use Rattle.std.specs.Option.{option_map}
use Rattle.grid_graph.specs.Graph.{Graph, graph}
use Rattle.grid_level.specs.Passing.{nodes}
use Rattle.grid_structure.specs.declared.Branch.{Branch}
use Rattle.grid_structure.specs.declared.End.{End}
use Rattle.grid_structure.specs.Network.{Network}
use Rattle.grid_structure.specs.Sites.{levels, branches, branch_ends, find_level}
use Rattle.grid_islands.specs.declared.kept.KeptLevel.{KeptLevel}
use Rattle.grid_islands.specs.declared.spots.Spot.{Spot}
use Rattle.grid_islands.specs.declared.spots.BranchSpots.{BranchSpots}
use Rattle.grid_islands.specs.declared.spots.BranchBuses.{BranchBuses}
use Rattle.grid_islands.specs.Islands.{pairs_among}

-- ---- spots

-- the place of a node among a level's
unfoldable pub node_index : List ℕ → ℤ → Option ℕ
node_index ns (pos node) = position (λ n. n == node) ns
node_index ns (negsuc node) = None

abbrev pub spot_at : ℕ → ℕ → Spot
spot_at level node = record { level = level; node = node }

-- the place of an end's level, with that of its node among the level's nodes
unfoldable pub spot_of_end : Network → End → Option Spot
spot_of_end net end = option_and_then (λ place. option_and_then (λ level. option_map (spot_at place) (node_index (nodes level) end.node)) (slice_get (levels net) place)) (find_level net end.level)

abbrev pub spots_at : Option Spot → Option Spot → Option Spot → BranchSpots
spots_at first second third = record { first = first; second = second; third = third }

-- that of the branch's end at a place among its ends, where there is one
abbrev pub spot_at_side : Network → Branch → ℕ → Option Spot
spot_at_side net branch side = option_and_then (spot_of_end net) (slice_get (branch_ends branch) side)

unfoldable pub spots_of_branch : Network → Branch → BranchSpots
spots_of_branch net branch = spots_at (spot_at_side net branch 0) (spot_at_side net branch 1) (spot_at_side net branch 2)

-- those of all branches
unfoldable pub network_spots : Network → List BranchSpots
network_spots net = map (λ b. spots_of_branch net b.shape) (branches net)

-- ---- pairs of buses

-- the number of the bus at a spot, by the numbers of the levels' first buses and by what is kept of the levels
unfoldable pub number_of_spot : List ℕ → List KeptLevel → Spot → Option ℕ
number_of_spot firsts kept spot =
    option_and_then (λ first. option_and_then (λ own. option_and_then (option_map (λ place. first + place)) (slice_get own.buses.places spot.node)) (slice_get kept spot.level)) (slice_get firsts spot.level)

-- the numbers of the buses at a branch's spots
unfoldable pub buses_of_spots : List ℕ → List KeptLevel → BranchSpots → BranchBuses
buses_of_spots firsts kept branch = record {
  first = option_and_then (number_of_spot firsts kept) branch.first;
  second = option_and_then (number_of_spot firsts kept) branch.second;
  third = option_and_then (number_of_spot firsts kept) branch.third;
}

unfoldable pub pairs_of_buses : BranchBuses → List (ℕ × ℕ)
pairs_of_buses branch = pairs_among (branch.first ∷ branch.second ∷ branch.third ∷ [])

-- a graph with these pairs more
abbrev pub with_pairs : Graph → List (ℕ × ℕ) → Graph
with_pairs net pairs = graph net.nodes (net.pairs ++ pairs)

-- ---- what stands in a level

unfoldable pub is_in : ℕ → Option Spot → Bool
is_in level None = false
is_in level (Some spot) = spot.level == level

unfoldable pub touches : ℕ → BranchSpots → Bool
touches level branch = is_in level branch.first || (is_in level branch.second || is_in level branch.third)

-- what is kept of the other levels is the same
abbrev pub SameElsewhere : ℕ → List KeptLevel → List KeptLevel → Type 0
SameElsewhere level before after = (other : ℕ) → other ≢ level → slice_get after other ≡ slice_get before other

-- ---- what callers must give

-- no bus has a number of 2^32 or more
abbrev pub NumbersFit : List ℕ → List KeptLevel → Type 0
NumbersFit firsts kept = (level node first place : ℕ) (own : KeptLevel) → slice_get firsts level ≡ Some first → slice_get kept level ≡ Some own → slice_get own.buses.places node ≡ Some (Some place) → first + place < 2 ^ 32
