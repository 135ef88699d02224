-- Figures by their fields.
use Rattle.std.proofs.Common.{◌≡◌, ℕ, List, length}
use Rattle.std.specs.Prelude.{count_by}
use Rattle.grid_graph.specs.Components.{places, component_numbers}
use Rattle.grid_graph.specs.Joined.{groups}
use Rattle.grid_unions.specs.declared.summed.Sums.{Sums}
use Rattle.grid_figures.specs.declared.Figures.{Figures}
use Rattle.grid_figures.specs.Figures.{figures_by, main_sum, total_sum, is_zero}

-- the fields are those of the figures of buses with these sums, which pairs join
pub record AreFieldsOf (sums : List Sums) (pairs : List (ℕ × ℕ)) (f : Figures) : Type 0 where
  pub buses : f.buses ≡ length sums
  pub components : f.components ≡ length (groups (places (length sums)) pairs)
  pub main : f.main ≡ count_by is_zero (component_numbers (length sums) pairs)
  pub load : f.load ≡ main_sum (λ s. s.load) (component_numbers (length sums) pairs) sums
  pub generation : f.generation ≡ main_sum (λ s. s.generation) (component_numbers (length sums) pairs) sums
  pub total_load : f.total_load ≡ total_sum (λ s. s.load) sums
  pub total_generation : f.total_generation ≡ total_sum (λ s. s.generation) sums

-- so they are those figures
pub figures_from : (sums : List Sums) (pairs : List (ℕ × ℕ)) (f : Figures) → AreFieldsOf sums pairs f → f ≡ figures_by sums pairs
unfolding figures_by
figures_from sums pairs f s = λ i. record {
  buses = s.buses i;
  components = s.components i;
  main = s.main i;
  load = s.load i;
  generation = s.generation i;
  total_load = s.total_load i;
  total_generation = s.total_generation i;
}
