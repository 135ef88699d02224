-- What is kept of the levels and branches for every outage, what an outage changes, and the buses and pairs by both.
use Rattle.std.specs.Prelude.{◌≡◌, ℕ, ℤ, ◌+◌, ◌<◌, if◌then◌else◌, Bool, not, Option, Some, None, List, [], ◌∷◌, ◌++◌, length, map, filter, flat_map, is_some, slice_get, slice_index, option_map, option_and_then, All}
use Rattle.std.specs.List.{slice_index_or, enumerate_from}
use Rattle.std.specs.declared.alloc.Global.{Global}
use Rattle.std.specs.Prelude.{Box}
use Rattle.grid_graph.specs.Components.{places}
use Rattle.grid_ids.specs.Name.{has_id}
use Rattle.grid_level.specs.VoltageLevel.{VoltageLevel}
use Rattle.grid_level.specs.Passing.{nodes, placed_at, positioned}
use Rattle.grid_powers.specs.Listed.{Listed}
use Rattle.grid_structure.specs.declared.Branch.{Branch}
use Rattle.grid_structure.specs.declared.End.{End}
use Rattle.grid_structure.specs.declared.NamedBranch.{NamedBranch}
use Rattle.grid_structure.specs.Network.{Network}
use Rattle.grid_structure.specs.Sites.{levels, branches, branch_ends, find_level}
use Rattle.grid_busview.specs.Views.{node_buses_of}
use Rattle.grid_islands.specs.Islands.{NetworkBus, pair_between}
use Rattle.grid_islands.specs.Numbering.{number_of_node, node_within}
use Rattle.grid_states.specs.Rows.{row_at}
use Rattle.grid_unions.specs.declared.summed.Sums.{Sums}
use Rattle.grid_sums.specs.Sums.{buses_under, sums_of}
use Rattle.grid_outages.specs.declared.screening.EndBus.{EndBus}
use Rattle.grid_outages.specs.declared.screening.Link.{Link}
use Rattle.grid_outages.specs.declared.outage.Changed.{Changed}

-- ---- levels

-- the buses of levels
unfoldable pub buses_over : Listed → List VoltageLevel → List (List Bool) → List NetworkBus
buses_over listed ls rows = flat_map (λ at. map (λ b. (at.0, b)) (buses_under listed at.1 (row_at rows at.0))) (enumerate_from 0 ls)

-- the sums of each level
unfoldable pub level_sums : Listed → List VoltageLevel → List (List Bool) → List (List Sums)
level_sums listed ls rows = map (λ at. sums_of listed at.1 (row_at rows at.0)) (enumerate_from 0 ls)

-- for each node of each level the place of the bus that holds it
unfoldable pub level_places : List VoltageLevel → List (List Bool) → List (List (Option ℕ))
level_places ls rows = map (λ at. (node_buses_of (positioned at.1 (row_at rows at.0))).places) (enumerate_from 0 ls)

-- ---- ends of branches

abbrev pub spot_at : ℕ → ℤ → Option ℕ → EndBus
spot_at level node bus = record { level = level; node = node; bus = bus }

-- an end of a branch, where its level is there
unfoldable pub spot_of : Network → List (List (Option ℕ)) → End → Option EndBus
spot_of net rows end =
    option_and_then (λ place. option_map (λ level. spot_at place end.node (number_of_node (nodes level) (slice_index_or rows place []) end.node)) (slice_get (levels net) place)) (find_level net end.level)

abbrev pub link_of : EndBus → EndBus → Link
link_of first second = record { first = first; second = second }

-- two ends, where both are there
unfoldable pub link_between : Option EndBus → Option EndBus → List Link
link_between None second = []
link_between (Some first) None = []
link_between (Some first) (Some second) = link_of first second ∷ []

-- those of each two of a list
unfoldable pub links_among : List (Option EndBus) → List Link
links_among [] = []
links_among (first ∷ rest) = flat_map (link_between first) rest ++ links_among rest

unfoldable pub branch_links : Network → List (List (Option ℕ)) → Branch → List Link
branch_links net rows branch = links_among (map (spot_of net rows) (branch_ends branch))

unfoldable pub network_links : Network → List (List (Option ℕ)) → List Link
network_links net rows = flat_map (λ b. branch_links net rows b.shape) (branches net)

-- the levels of the ends are there
abbrev pub LinksFit : ℕ → List Link → Type 0
LinksFit count links = All (λ link. (link.first.level < count) × (link.second.level < count)) links

-- ---- levels that an outage changes

-- for each level, whether it has changed, and then what it is
abbrev pub Changes : Type 0
Changes = List (Option (Box Changed Global))

-- the levels with those that have changed
unfoldable pub shown_levels : Changes → List VoltageLevel → List VoltageLevel
shown_levels [] ls = ls
shown_levels (o ∷ changes) [] = []
shown_levels (None ∷ changes) (l ∷ ls) = l ∷ shown_levels changes ls
shown_levels (Some c ∷ changes) (l ∷ ls) = c.value.level ∷ shown_levels changes ls

-- the rows of flags opened with those that have changed
unfoldable pub shown_rows : Changes → List (List Bool) → List (List Bool)
shown_rows [] rows = rows
shown_rows (o ∷ changes) [] = []
shown_rows (None ∷ changes) (row ∷ rows) = row ∷ shown_rows changes rows
shown_rows (Some c ∷ changes) (row ∷ rows) = c.value.opened ∷ shown_rows changes rows

-- what is told of a changed level's buses is right
pub record IsLooked (listed : Listed) (c : Changed) : Type 0 where
  pub places : c.places ≡ (node_buses_of (positioned c.level c.opened)).places
  pub sums : c.sums ≡ sums_of listed c.level c.opened

abbrev pub IsLookedAt : Listed → Option (Box Changed Global) → Type 0
IsLookedAt listed None = Unit {0}
IsLookedAt listed (Some c) = IsLooked listed c.value

-- it has a flag for each switch
abbrev pub FitsAt : Option (Box Changed Global) → Type 0
FitsAt None = Unit {0}
FitsAt (Some c) = length c.value.opened ≡ length c.value.level.switches

-- the level and the flags at a place, where they were these before
abbrev pub level_by : Option (Box Changed Global) → VoltageLevel → VoltageLevel
level_by None l = l
level_by (Some c) l = c.value.level

abbrev pub row_by : Option (Box Changed Global) → List Bool → List Bool
row_by None row = row
row_by (Some c) row = c.value.opened

abbrev pub change_at : Changes → ℕ → Option (Box Changed Global)
change_at changes place = slice_index_or changes place None

-- the changes show what others show, and each is looked at
pub record AreLooked (listed : Listed) (old new : Changes) : Type 0 where
  pub long : length new ≡ length old
  pub levels : (k : ℕ) (l : VoltageLevel) → level_by (change_at new k) l ≡ level_by (change_at old k) l
  pub rows : (k : ℕ) (row : List Bool) → row_by (change_at new k) row ≡ row_by (change_at old k) row
  pub looked : (k : ℕ) → IsLookedAt listed (change_at new k)

-- the level without the terminals of some equipment
unfoldable pub level_without : List (List ℕ) → VoltageLevel → VoltageLevel
level_without ids level = record level { placed = filter (λ p. not (has_id ids p.terminal.equipment)) level.placed }

unfoldable pub branches_without : List (List ℕ) → List NamedBranch → List NamedBranch
branches_without ids bs = filter (λ b. not (has_id ids b.id)) bs

-- ---- the present numbers of buses

-- the sums of the level at a place: its own where it has changed, else those that are kept
abbrev pub sums_in : List (List Sums) → Option (Box Changed Global) → ℕ → List Sums
sums_in kept None place = slice_index_or kept place []
sums_in kept (Some c) place = c.value.sums

unfoldable pub present_sums : List (List Sums) → Changes → ℕ → List Sums
present_sums kept changes place = sums_in kept (change_at changes place) place

-- those of the levels before a place
unfoldable pub sums_before : List (List Sums) → Changes → ℕ → List Sums
sums_before kept changes place = flat_map (present_sums kept changes) (places place)

-- the place of the bus at a node of a changed level, where a terminal still stands there
unfoldable pub place_among : Changed → Option ℕ → ℤ → Option ℕ
place_among c None node = None
place_among c (Some number) node = if is_some (placed_at c.level number) then number_of_node (nodes c.level) c.places node else None

abbrev pub place_in : Option (Box Changed Global) → EndBus → Option ℕ
place_in None spot = spot.bus
place_in (Some c) spot = place_among c.value (node_within spot.node) spot.node

-- the present number of the bus at an end, where the levels' first buses have these numbers
unfoldable pub number_at : List ℕ → Changes → EndBus → Option ℕ
number_at firsts changes spot = option_map (λ place. slice_index firsts spot.level + place) (place_in (change_at changes spot.level) spot)

unfoldable pub link_pairs : List ℕ → Changes → Link → List (ℕ × ℕ)
link_pairs firsts changes link = pair_between (number_at firsts changes link.first) (number_at firsts changes link.second)
