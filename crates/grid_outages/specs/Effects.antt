-- What an outage is to the figures of a network, by what is kept of it and what the outage changes.
use Rattle.std.specs.Prelude.{◌≡◌, ℕ, ◌<◌, Option, Some, None, List, [], ◌∷◌, length, map, flat_map, All, Box}
use Rattle.std.specs.List.{slice_index_or}
use Rattle.std.specs.declared.alloc.Global.{Global}
use Rattle.grid_graph.specs.Components.{places}
use Rattle.grid_unions.specs.declared.summed.Sums.{Sums}
use Rattle.grid_figures.specs.declared.Figures.{Figures}
use Rattle.grid_figures.specs.declared.outage.BusAt.{BusAt}
use Rattle.grid_figures.specs.declared.outage.Outage.{Outage}
use Rattle.grid_figures.specs.Figures.{figures_by}
use Rattle.grid_figures.specs.Outages.{LinkAt, LinksThere, sums_under, pairs_under}
use Rattle.grid_outages.specs.declared.outage.Changed.{Changed}
use Rattle.grid_outages.specs.declared.screening.EndBus.{EndBus}
use Rattle.grid_outages.specs.declared.screening.Link.{Link}
use Rattle.grid_outages.specs.declared.screening.Screening.{Screening}
use Rattle.grid_outages.specs.Changes.{Changes, change_at, place_in, sums_before, link_pairs, LinksFit}
use Rattle.grid_outages.specs.Tables.{end_places}

-- ---- links between buses

abbrev pub bus_at : ℕ → ℕ → BusAt
bus_at level bus = record { level = level; bus = bus }

-- the link of two ends with these buses, where there are both
abbrev pub link_of_buses : Link → Option ℕ → Option ℕ → List LinkAt
link_of_buses link (Some first) (Some second) = (bus_at link.first.level first, bus_at link.second.level second) ∷ []
link_of_buses link first second = []

-- before any outage
unfoldable pub joined_of : Link → List LinkAt
joined_of link = link_of_buses link link.first.bus link.second.bus

-- under an outage
unfoldable pub joined_under : Changes → Link → List LinkAt
joined_under changes link = link_of_buses link (place_in (change_at changes link.first.level) link.first) (place_in (change_at changes link.second.level) link.second)

-- the levels of both ends
abbrev pub levels_of : Link → ℕ × ℕ
levels_of link = (link.first.level, link.second.level)

abbrev pub levels_at : LinkAt → ℕ × ℕ
levels_at link = (link.0.level, link.1.level)

abbrev pub LevelsFit : ℕ → List LinkAt → Type 0
LevelsFit count joined = All (λ link. (link.0.level < count) × (link.1.level < count)) joined

-- ---- what is kept

-- the bus is one of so many
abbrev pub IsBelow : Option ℕ → ℕ → Type 0
IsBelow None count = Unit {0}
IsBelow (Some bus) count = bus < count

abbrev pub IsKept : List (List Sums) → EndBus → Type 0
IsKept sums spot = (spot.level < length sums) × IsBelow spot.bus (length (slice_index_or sums spot.level []))

-- the buses of links are kept, and the lists are those of the links
pub record IsWhole (kept : Screening) : Type 0 where
  pub buses : All (λ link. IsKept kept.sums link.first × IsKept kept.sums link.second) kept.links
  pub joined : kept.joined ≡ flat_map joined_of kept.links
  pub there : LinksThere kept.sums [] kept.joined
  pub ends : kept.ends ≡ end_places (length kept.sums) (map levels_of kept.links)
  pub joined_ends : kept.joined_ends ≡ end_places (length kept.sums) (map levels_at kept.joined)

-- ---- what is changed

-- each node of a changed level stands in one of its buses or in none
abbrev pub ArePlaced : Option (Box Changed Global) → Type 0
ArePlaced None = Unit {0}
ArePlaced (Some c) = (k place : ℕ) → slice_index_or c.value.places k None ≡ Some place → place < length c.value.sums

pub record ChangesFit (kept : Screening) (changes : Changes) : Type 0 where
  pub long : length changes ≡ length kept.sums
  pub placed : (k : ℕ) → ArePlaced (change_at changes k)

-- ---- figures

-- the number of each level's first bus
unfoldable pub firsts_under : List (List Sums) → Changes → List ℕ
firsts_under sums changes = map (λ place. length (sums_before sums changes place)) (places (length sums))

-- of the buses and pairs that are there under the changes
unfoldable pub figures_with : Screening → Changes → Figures
figures_with kept changes = figures_by (sums_before kept.sums changes (length kept.sums)) (flat_map (link_pairs (firsts_under kept.sums changes) changes) kept.links)

-- an outage has these figures
abbrev pub IsEffect : Screening → Changes → Outage → Type 0
IsEffect kept changes outage = figures_by (sums_under kept.sums outage) (pairs_under kept.sums kept.joined outage) ≡ figures_with kept changes
