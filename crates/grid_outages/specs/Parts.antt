-- The parts of an outage, level by level.
use Rattle.std.specs.Prelude.{ℕ, Option, Some, None, List, [], flat_map, slice_get, Box}
use Rattle.std.specs.List.{slice_index_or}
use Rattle.std.specs.declared.alloc.Global.{Global}
use Rattle.grid_figures.specs.declared.outage.ChangedSums.{ChangedSums}
use Rattle.grid_figures.specs.Outages.{LinkAt}
use Rattle.grid_outages.specs.declared.outage.Changed.{Changed}
use Rattle.grid_outages.specs.declared.screening.Link.{Link}
use Rattle.grid_outages.specs.Changes.{Changes}
use Rattle.grid_outages.specs.Effects.{joined_under}

-- a changed level with its place
abbrev pub ChangeAt : Type 0
ChangeAt = ℕ × Box Changed Global

-- its sums
abbrev pub changed_part : ChangeAt → ChangedSums
changed_part at = record { level = at.0; sums = at.1.value.sums }

-- the places of the links with an end there
abbrev pub row_of : List (List ℕ) → ChangeAt → List ℕ
row_of table at = slice_index_or table at.0 []

abbrev pub joined_at : Changes → Option Link → List LinkAt
joined_at changes (Some link) = joined_under changes link
joined_at changes None = []

-- the links at some places, where they join buses under the changes
unfoldable pub own_among : List Link → Changes → List ℕ → List LinkAt
own_among links changes ps = flat_map (λ place. joined_at changes (slice_get links place)) ps

abbrev pub own_at : List Link → List (List ℕ) → Changes → ChangeAt → List LinkAt
own_at links table changes at = own_among links changes (row_of table at)
