-- The buses and the pairs of a network under an outage.
use Rattle.std.specs.Prelude.{◌≡◌, ℕ, ◌+◌, ◌<◌, ◌==◌, if◌then◌else◌, Bool, false, not, List, [], ◌∷◌, ◌++◌, length, map, filter, flat_map, All}
use Rattle.std.specs.List.{list_any, slice_index_or}
use Rattle.std.specs.List.Sorted.{IsStrictlyIncreasing}
use Rattle.grid_graph.specs.Components.{places}
use Rattle.grid_unions.specs.Sweep.{is_among}
use Rattle.grid_unions.specs.declared.summed.Sums.{Sums}
use Rattle.grid_figures.specs.Figures.{figures_by}
use Rattle.grid_figures.specs.declared.Figures.{Figures}
use Rattle.grid_figures.specs.declared.outage.BusAt.{BusAt}
use Rattle.grid_figures.specs.declared.outage.ChangedSums.{ChangedSums}
use Rattle.grid_figures.specs.declared.outage.Outage.{Outage}

-- ---- buses

-- the sums of the buses of the level at a place: those of the change of the level, where it is changed, else those that
-- are kept
unfoldable pub level_sums : List (List Sums) → List ChangedSums → ℕ → List Sums
level_sums kept [] level = slice_index_or kept level []
level_sums kept (c ∷ changed) level = if c.level == level then c.sums else level_sums kept changed level

-- those of the levels before a place
unfoldable pub sums_before : List (List Sums) → List ChangedSums → ℕ → List Sums
sums_before kept changed level = flat_map (level_sums kept changed) (places level)

-- those of all levels under an outage
abbrev pub sums_under : List (List Sums) → Outage → List Sums
sums_under kept outage = sums_before kept outage.levels (length kept)

-- the number of a bus: the buses of a level come after those of the levels before it
unfoldable pub number_of : List (List Sums) → List ChangedSums → BusAt → ℕ
number_of kept changed at = length (sums_before kept changed at.level) + at.bus

-- ---- pairs

abbrev pub LinkAt : Type 0
LinkAt = BusAt × BusAt

abbrev pub no_link : LinkAt
no_link = (record { level = 0; bus = 0 }, record { level = 0; bus = 0 })

-- the link at a place
abbrev pub link_at : List LinkAt → ℕ → LinkAt
link_at links place = slice_index_or links place no_link

-- the links whose places are not among those that are gone
unfoldable pub links_left : List LinkAt → List ℕ → List LinkAt
links_left links gone = map (link_at links) (filter (λ place. not (is_among gone place)) (places (length links)))

-- the numbers of the buses at both ends of a link
abbrev pub pair_of : List (List Sums) → List ChangedSums → LinkAt → ℕ × ℕ
pair_of kept changed link = (number_of kept changed link.0, number_of kept changed link.1)

-- the pairs of the links that an outage leaves, and of its own ones
unfoldable pub pairs_under : List (List Sums) → List LinkAt → Outage → List (ℕ × ℕ)
pairs_under kept links outage = map (pair_of kept outage.levels) (links_left links outage.gone ++ outage.own)

-- ---- what fits

-- a bus that is there
abbrev pub IsThere : List (List Sums) → List ChangedSums → BusAt → Type 0
IsThere kept changed at = (at.level < length kept) × (at.bus < length (level_sums kept changed at.level))

-- both ends of each link are buses that are there
abbrev pub LinksThere : List (List Sums) → List ChangedSums → List LinkAt → Type 0
LinksThere kept changed links = All (λ link. IsThere kept changed link.0 × IsThere kept changed link.1) links

-- a level is one of those that are changed
unfoldable pub is_changed : List ChangedSums → ℕ → Bool
is_changed changed level = list_any (λ c. c.level == level) changed

-- an outage of a network with these buses and links: its levels rise, and are there; what is gone are places of links; no
-- end of another link is in a changed level; and its own links join buses that are there under it
pub record OutageFits (kept : List (List Sums)) (links : List LinkAt) (outage : Outage) : Type 0 where
  pub rising : IsStrictlyIncreasing (map (λ c. c.level) outage.levels)
  pub levels : All (λ c. c.level < length kept) outage.levels
  pub gone : All (λ place. place < length links) outage.gone
  pub left : All (λ link. (is_changed outage.levels link.0.level ≡ false) × (is_changed outage.levels link.1.level ≡ false)) (links_left links outage.gone)
  pub own : LinksThere kept outage.levels outage.own

-- ---- figures

-- they are those of a network under an outage
abbrev pub AreFiguresUnder : List (List Sums) → List LinkAt → Outage → Figures → Type 0
AreFiguresUnder kept links outage figures = figures ≡ figures_by (sums_under kept outage) (pairs_under kept links outage)
