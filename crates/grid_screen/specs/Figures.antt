-- The figures of buses that pairs join: how many buses and components there are, what stands in component 0, and in
-- all.
use Rattle.std.specs.Prelude.{ℕ, ℤ, pos, ◌+ℤ◌, ◌==◌, Bool, List, length, filter, fold}
use Rattle.std.specs.List.{enumerate_from}
use Rattle.grid_graph.specs.Joined.{groups}
use Rattle.grid_graph.specs.Components.{places, component_number}
use Rattle.grid_busview.specs.declared.ViewBus.{ViewBus}
use Rattle.grid_islands.specs.Islands.{NetworkBus}
use Rattle.grid_figures.specs.declared.Figures.{Figures}

-- the bus of a number is of component 0, among so many buses that these pairs join
unfoldable pub is_main : ℕ → List (ℕ × ℕ) → ℕ → Bool
is_main count pairs number = component_number count pairs number == 0

-- the buses of component 0, by number
unfoldable pub main_buses : List NetworkBus → List (ℕ × ℕ) → List (ℕ × NetworkBus)
main_buses all pairs = filter (λ bus. is_main (length all) pairs bus.0) (enumerate_from 0 all)

-- the sum of some watts of buses
unfoldable pub sum_over : (ViewBus → ℤ) → List (ℕ × NetworkBus) → ℤ
sum_over watts buses = fold (λ total bus. total +ℤ watts bus.1.1) (pos 0) buses

-- over all buses
unfoldable pub total_over : (ViewBus → ℤ) → List NetworkBus → ℤ
total_over watts all = fold (λ total bus. total +ℤ watts bus.1) (pos 0) all

-- all are 0 where there is no bus
unfoldable pub figures_over : List NetworkBus → List (ℕ × ℕ) → Figures
figures_over all pairs = record {
  buses = length all;
  components = length (groups (places (length all)) pairs);
  main = length (main_buses all pairs);
  load = sum_over (λ b. b.load) (main_buses all pairs);
  generation = sum_over (λ b. b.generation) (main_buses all pairs);
  total_load = total_over (λ b. b.load) all;
  total_generation = total_over (λ b. b.generation) all;
}
