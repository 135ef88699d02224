-- The sums of buses by the bus of each node, terminal by terminal.
use Rattle.std.specs.Prelude.{◌≡◌, ℕ, ℤ, pos, ◌<◌, ◌+ℤ◌, ◌==◌, if◌then◌else◌, Bool, false, Option, Some, None, List, filter, slice_index_or}
use Rattle.grid_level.specs.declared.Stand.{Stand}
use Rattle.grid_groups.specs.Labels.{index_in}
use Rattle.grid_busview.specs.Views.{Fed, is_load, is_generation, watts_over}
use Rattle.grid_unions.specs.declared.summed.Sums.{Sums}

abbrev pub no_sums : Sums
no_sums = record { load = pos 0; generation = pos 0 }

abbrev pub watts_if : Bool → ℤ → ℤ → ℤ
watts_if counts sum watts = if counts then sum +ℤ watts else sum

-- with the watts of one terminal more
abbrev pub with_watts : Sums → Stand → ℤ → Sums
with_watts sums stand watts = record { load = watts_if (is_load stand) sums.load watts; generation = watts_if (is_generation stand) sums.generation watts }

-- it is the bus at a place
abbrev pub is_at : ℕ → Option ℕ → Bool
is_at bus (Some place) = place == bus
is_at bus None = false

-- the bus of a node, where these are the nodes and the bus of each
abbrev pub place_of : List ℕ → List (Option ℕ) → ℕ → Option ℕ
place_of ns places node = slice_index_or places (index_in ns node) None

-- the terminals of a bus, each with its watts
abbrev pub fed_in : List ℕ → List (Option ℕ) → ℕ → List Fed → List Fed
fed_in ns places bus fed = filter (λ pair. is_at bus (place_of ns places pair.0.node)) fed

unfoldable pub sums_in : List ℕ → List (Option ℕ) → List Fed → ℕ → Sums
sums_in ns places fed bus = record { load = watts_over is_load (fed_in ns places bus fed); generation = watts_over is_generation (fed_in ns places bus fed) }

-- each bus is one of so many
abbrev pub ArePlacesBelow : List (Option ℕ) → ℕ → Type 0
ArePlacesBelow places count = (k : ℕ) (place : ℕ) → slice_index_or places k None ≡ Some place → place < count
