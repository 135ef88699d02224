-- What a sweep finds of a graph that has other numbers besides the buses, as figures of the buses.
use Rattle.std.specs.Prelude.{◌≡◌, ℕ, ◌+◌, ◌<◌, ◌≤◌, Option, Some, None, List, length, count_by, slice_get}
use Rattle.grid_graph.specs.Components.{places, component_numbers}
use Rattle.grid_graph.specs.Joined.{groups}
use Rattle.grid_unions.specs.declared.summed.Sums.{Sums}
use Rattle.grid_unions.specs.declared.sweeps.Found.{Found}
use Rattle.grid_unions.specs.Summed.{no_sums}
use Rattle.grid_figures.specs.Figures.{main_sum, is_zero}
use Rattle.grid_figures.specs.Outages.{LinkAt, sums_under, pairs_under}
use Rattle.grid_figures.specs.declared.outage.Outage.{Outage}

-- of so many buses with these sums, that pairs join, the main component has so many buses, and these sums
pub record IsMain (buses : ℕ) (sums : List Sums) (pairs : List (ℕ × ℕ)) (size : ℕ) (own : Sums) : Type 0 where
  pub count : size ≡ count_by is_zero (component_numbers buses pairs)
  pub load : own.load ≡ main_sum (λ s. s.load) (component_numbers buses pairs) sums
  pub generation : own.generation ≡ main_sum (λ s. s.generation) (component_numbers buses pairs) sums

-- the first bus alone, or none where there is no bus
abbrev pub IsFirstMain : ℕ → List Sums → List (ℕ × ℕ) → Option Sums → Type 0
IsFirstMain buses sums pairs (Some own) = IsMain buses sums pairs 1 own
IsFirstMain buses sums pairs None = IsMain buses sums pairs 0 no_sums

-- what is found of a graph over so many numbers, of which so many are buses, with these sums, that pairs join: each other
-- number is a class more; the greatest class is the main component, if it has more than one number; else each component
-- has one bus, and the first bus is the main one
pub record IsSeen (buses : ℕ) (sums : List Sums) (pairs : List (ℕ × ℕ)) (numbers : ℕ) (found : Found) : Type 0 where
  pub few : buses ≤ numbers
  pub classes : found.classes + buses ≡ length (groups (places buses) pairs) + numbers
  pub many : 1 < found.size → IsMain buses sums pairs found.size found.sums
  pub one : found.size ≤ 1 → IsFirstMain buses sums pairs (slice_get sums 0)

-- it is found under an outage
abbrev pub IsSeenUnder : List (List Sums) → List LinkAt → ℕ → Outage → Found → Type 0
IsSeenUnder kept links numbers outage found =
    IsSeen (length (sums_under kept outage)) (sums_under kept outage) (pairs_under kept links outage) numbers found
