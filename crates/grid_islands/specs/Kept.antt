-- The buses of levels, kept with the flags that they were made of, and the spots of branches.
use Rattle.std.specs.Prelude.{◌≡◌, ◌≢◌, ◌⊎◌, ℕ, ◌<◌, Bool, true, IsTrue, Some, None, IfSome, List, length, map, flat_map, slice_get}
use Rattle.grid_graph.specs.Graph.{graph, EndsBelow}
use Rattle.grid_queue.specs.Parents.{AreLabelsOf}
use Rattle.grid_level.specs.VoltageLevel.{VoltageLevel}
use Rattle.grid_level.specs.Passing.{positioned}
use Rattle.grid_structure.specs.Network.{Network}
use Rattle.grid_structure.specs.Sites.{levels}
use Rattle.grid_busview.specs.Views.{node_buses_of}
use Rattle.grid_states.specs.Rows.{row_at}
use Rattle.grid_islands.specs.declared.kept.KeptLevel.{KeptLevel}
use Rattle.grid_islands.specs.declared.kept.KeptBuses.{KeptBuses}
use Rattle.grid_islands.specs.declared.components.Numbers.{Numbers}
use Rattle.grid_islands.specs.Numbering.{AreNumbers}
use Rattle.grid_islands.specs.declared.spots.BranchBuses.{BranchBuses}
use Rattle.grid_islands.specs.declared.spots.IndexedSpots.{IndexedSpots}
use Rattle.grid_islands.specs.LevelEnds.{IsIndexOf}
use Rattle.grid_islands.specs.Spots.{network_spots, buses_of_spots, pairs_of_buses, SameElsewhere}

-- what is kept of a level under these flags
unfoldable pub kept_of : VoltageLevel → List Bool → KeptLevel
kept_of level opened = record { opened = opened; buses = node_buses_of (positioned level opened); valid = true }

-- something is kept of the level at a place
abbrev pub IsKeptAt : KeptBuses → ℕ → KeptLevel → Type 0
IsKeptAt kept place own = slice_get kept.levels place ≡ Some own

-- it is what its own flags make of the level, where it was not let go
abbrev pub IsMadeOf : VoltageLevel → KeptLevel → Type 0
IsMadeOf level own = IsTrue own.valid → own ≡ kept_of level own.opened

-- every level but the one at a place is as before
abbrev pub LeavesOthers : Network → Network → ℕ → Type 0
LeavesOthers net next place = (other : ℕ) → other ≢ place → slice_get (levels next) other ≡ slice_get (levels net) other

-- nothing has changed, or there are no components any more
abbrev pub IsLeftOrNone : KeptBuses → KeptBuses → Type 0
IsLeftOrNone old new = (new ≡ old) ⊎ (new.numbers ≡ None)

-- the levels before a place are kept, under the flags of these rows
abbrev pub AreKeptBefore : Network → List (List Bool) → ℕ → KeptBuses → Type 0
AreKeptBefore net opened count kept = (place : ℕ) (level : VoltageLevel) → place < count → slice_get (levels net) place ≡ Some level → IsKeptAt kept place (kept_of level (row_at opened place))

-- all levels are
abbrev pub AreKept : Network → List (List Bool) → KeptBuses → Type 0
AreKept net opened kept = AreKeptBefore net opened (length (levels net)) kept

-- all but the one at a place are
abbrev pub AreKeptBut : Network → List (List Bool) → ℕ → KeptBuses → Type 0
AreKeptBut net opened but kept = (place : ℕ) (level : VoltageLevel) → place ≢ but → slice_get (levels net) place ≡ Some level → IsKeptAt kept place (kept_of level (row_at opened place))

-- the spots are those of the network's branches, with the levels in which these have an end
pub record IsSpotted (net : Network) (spots : IndexedSpots) : Type 0 where
  pub branches : spots.branches ≡ network_spots net
  pub index : IsIndexOf spots.branches spots.index
  pub long : length spots.index.lasts ≡ length (levels net)

-- the numbers are those under the flags of all levels, with which the levels are kept; so are the buses in which branches end
pub record AreNumbersOf (net : Network) (kept : KeptBuses) (numbers : Numbers) : Type 0 where
  pub opened : List (List Bool)
  pub rows : length opened ≡ length (levels net)
  pub every : AreKept net opened kept
  pub numbered : AreNumbers net opened numbers
  pub ended : numbers.ends ≡ map (buses_of_spots numbers.counts.firsts kept.levels) (network_spots net)
  pub labelled : AreLabelsOf (graph numbers.counts.count (flat_map pairs_of_buses numbers.ends)) numbers.labels

-- the numbers are those of levels that were kept before, of which the one at a place alone has other buses by now, but as many
pub record IsFollowedBy (net : Network) (place : ℕ) (numbers : Numbers) (kept : KeptBuses) : Type 0 where
  pub before : KeptBuses
  pub were : AreNumbersOf net before numbers
  pub others : SameElsewhere place before.levels kept.levels
  pub as_many : (one other : KeptLevel) → IsKeptAt before place one → IsKeptAt kept place other → length one.buses.leasts ≡ length other.buses.leasts

-- what is kept of each level of a network, where something is, is of that level, unless it was let go; the spots, where some are
-- kept, are those of the network's branches; and so are the numbers, where they are kept
pub record AreBusesOf (net : Network) (kept : KeptBuses) : Type 0 where
  pub made : (place : ℕ) (level : VoltageLevel) (own : KeptLevel) → slice_get (levels net) place ≡ Some level → IsKeptAt kept place own → IsMadeOf level own
  pub spotted : 0 < length kept.spots.branches → IsSpotted net kept.spots
  pub numbered : IfSome kept.numbers (AreNumbersOf net kept)

-- what is kept of the level at a place alone is another than before, when the ends of the branches stood in these buses; the pairs
-- that the branches make now are of buses below a count
pub record IsMovedAt (level : ℕ) (before : List KeptLevel) (kept : KeptBuses) (firsts : List ℕ) (count : ℕ) (ends : List BranchBuses) : Type 0 where
  pub others : SameElsewhere level before kept.levels
  pub were : ends ≡ map (buses_of_spots firsts before) kept.spots.branches
  pub below : EndsBelow (flat_map pairs_of_buses (map (buses_of_spots firsts kept.levels) kept.spots.branches)) count
