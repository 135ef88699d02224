-- The figures of buses with sums that pairs join.
use Rattle.std.specs.Prelude.{ℕ, ℤ, pos, ◌+ℤ◌, ◌==◌, if◌then◌else◌, Bool, List, length, count_by, fold, zip}
use Rattle.grid_graph.specs.Components.{places, component_numbers}
use Rattle.grid_graph.specs.Joined.{groups}
use Rattle.grid_unions.specs.declared.summed.Sums.{Sums}
use Rattle.grid_figures.specs.declared.Figures.{Figures}

-- sums of the buses whose number is 0
abbrev pub add_main : (Sums → ℤ) → ℤ → ℕ × Sums → ℤ
add_main watts total bus = if bus.0 == 0 then total +ℤ watts bus.1 else total

unfoldable pub main_sum : (Sums → ℤ) → List ℕ → List Sums → ℤ
main_sum watts numbers sums = fold (add_main watts) (pos 0) (zip numbers sums)

-- sums of all buses
unfoldable pub total_sum : (Sums → ℤ) → List Sums → ℤ
total_sum watts sums = fold (λ total bus. total +ℤ watts bus) (pos 0) sums

abbrev pub is_zero : ℕ → Bool
is_zero number = number == 0

-- the figures of buses with these sums by number, of which pairs of numbers are joined
unfoldable pub figures_by : List Sums → List (ℕ × ℕ) → Figures
figures_by sums pairs =
    let numbers = component_numbers (length sums) pairs in
    record {
      buses = length sums;
      components = length (groups (places (length sums)) pairs);
      main = count_by is_zero numbers;
      load = main_sum (λ s. s.load) numbers sums;
      generation = main_sum (λ s. s.generation) numbers sums;
      total_load = total_sum (λ s. s.load) sums;
      total_generation = total_sum (λ s. s.generation) sums;
    }
