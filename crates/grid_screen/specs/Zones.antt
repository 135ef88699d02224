-- The zone of a fault: the sites that are joined to those of its ids. The rule is this project's own.
use Rattle.std.specs.Prelude.{ℕ, Bool, not, ◌&&◌, ◌||◌, ◌+◌, ◌*◌, Option, Some, None, List, [], ◌∷◌, ◌++◌, map, filter, flat_map, slice_get, option_and_then}
use Rattle.std.specs.Option.{option_map}
use Rattle.std.specs.List.{enumerate_from, filter_map, list_any}
use Rattle.grid_graph.specs.Joined.{joined}
use Rattle.grid_ids.specs.Name.{has_id}
use Rattle.grid_level.specs.declared.Switch.{Switch}
use Rattle.grid_level.specs.VoltageLevel.{VoltageLevel}
use Rattle.grid_level.specs.Passing.{switch_edge, internal_edge, ends, is_operable, nodes, positioned}
use Rattle.grid_states.specs.Rows.{row_at}
use Rattle.grid_structure.specs.declared.NamedBranch.{NamedBranch}
use Rattle.grid_structure.specs.declared.Site.{Site}
use Rattle.grid_structure.specs.Network.{Network}
use Rattle.grid_structure.specs.Sites.{levels, branches, find_switch, site, terminal_spot}

-- ---- sites

-- a node of the level at a place
abbrev pub site_at : ℕ → ℕ → Site
site_at level node = record { level = level; node = node }

-- the sites of a network, by place of level, then by rising node
unfoldable pub network_sites : Network → List Site
network_sites net = flat_map (λ at. map (site_at at.0) (nodes at.1)) (enumerate_from 0 (levels net))

abbrev pub sites_of_ends : ℕ → Option Switch → List Site
sites_of_ends place (Some s) = site_at place s.node1 ∷ site_at place s.node2 ∷ []
sites_of_ends place None = []

-- the two nodes of the switch at a place of the level at a place
unfoldable pub sites_of_switch : Network → ℕ × ℕ → List Site
sites_of_switch net at = sites_of_ends at.0 (option_and_then (λ l. slice_get l.switches at.1) (slice_get (levels net) at.0))

-- the node of each terminal of an equipment
unfoldable pub sites_of_equipment : Network → List ℕ → List Site
sites_of_equipment net id = filter_map (λ side. option_map terminal_spot (site net id side)) (1 ∷ 2 ∷ 3 ∷ [])

-- by where the switch of the id is, if it is a switch's
abbrev pub sites_by : Network → List ℕ → Option (ℕ × ℕ) → List Site
sites_by net id (Some at) = sites_of_switch net at
sites_by net id None = sites_of_equipment net id

unfoldable pub sites_of : Network → List ℕ → List Site
sites_of net id = sites_by net id (find_switch net id)

-- ---- links

-- whether a fault passes over a switch: a closed one, but for the operable breakers that are not stuck
unfoldable pub passes_fault : List (List ℕ) → Switch → Bool
passes_fault stuck s = not s.opened && (not (is_operable s) || has_id stuck s.id)

-- the ends of the edges over which a fault passes: of such switches, and of each internal connection
unfoldable pub passing_fault : List (List ℕ) → VoltageLevel → List (ℕ × ℕ)
passing_fault stuck level =
    map (λ s. ends (switch_edge s)) (filter (passes_fault stuck) level.switches) ++ map (λ i. ends (internal_edge i)) level.internals

-- two sites of a level
abbrev pub sites_at : ℕ → ℕ × ℕ → Site × Site
sites_at place pair = (site_at place pair.0, site_at place pair.1)

-- the links of a level by its place, its switches in the positions of these rows
unfoldable pub level_ties : List (List ℕ) → List (List Bool) → ℕ × VoltageLevel → List (Site × Site)
level_ties stuck opened at = map (sites_at at.0) (passing_fault stuck (positioned at.1 (row_at opened at.0)))

-- each two of a list
unfoldable pub each_two : {X : Type 0} → List X → List (X × X)
each_two [] = []
each_two (x ∷ xs) = map (λ y. (x, y)) xs ++ each_two xs

-- the sites of each two of a branch's ends
unfoldable pub branch_ties : Network → NamedBranch → List (Site × Site)
branch_ties net branch = each_two (sites_of_equipment net branch.id)

-- the links of a network over which a fault passes, where the switches have these flags opened, and these ids are stuck
unfoldable pub fault_ties : Network → List (List Bool) → List (List ℕ) → List (Site × Site)
fault_ties net opened stuck = flat_map (level_ties stuck opened) (enumerate_from 0 (levels net)) ++ flat_map (branch_ties net) (branches net)

-- ---- joined sites

-- nodes are below 65,536, so different sites have different numbers
unfoldable pub site_number : Site → ℕ
site_number s = s.level * 65536 + s.node

unfoldable pub pair_number : Site × Site → ℕ × ℕ
pair_number tie = (site_number tie.0, site_number tie.1)

-- among these sites, one is joined over the links to one of the starts
unfoldable pub is_hit : List Site → List (Site × Site) → List Site → Site → Bool
is_hit sites ties starts s = list_any (λ start. joined (map site_number sites) (map pair_number ties) (site_number start) (site_number s)) starts

-- the sites of a network that are joined to a start over links that may be of another network with these levels
unfoldable pub zone_over : Network → List (Site × Site) → List Site → List Site
zone_over net ties starts = filter (is_hit (network_sites net) ties starts) (network_sites net)
