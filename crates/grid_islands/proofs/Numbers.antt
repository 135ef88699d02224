-- The numbers of components, as a list.
use Rattle.std.proofs.Common.{◌≡◌, ℕ, ◌<◌, List, length, get_or, arith}
use Rattle.grid_graph.specs.Components.{component_number, component_numbers}
use Rattle.grid_graph.specs.Graph.{graph, EndsBelow}
use Rattle.grid_graph.proofs.Below.{pairs_below}
use Rattle.grid_graph.proofs.Counts.{at_place, long_places}
use Rattle.grid_islands.proofs.ComponentSizes.{number_below}

module _ (count : ℕ) (pairs : List (ℕ × ℕ)) (ends : EndsBelow pairs count) where
  pub numbers_long : (numbers : List ℕ) → numbers ≡ component_numbers count pairs → length numbers ≡ count
  unfolding component_numbers
  numbers_long numbers e = long_places count (component_number count pairs) numbers e

  pub numbers_below : (numbers : List ℕ) → numbers ≡ component_numbers count pairs → (k : ℕ) → k < length numbers → get_or numbers k 0 < length numbers
  unfolding component_numbers
  numbers_below numbers e k lt =
      let less : k < count = omega (arith, lt, numbers_long numbers e) in
      omega (arith, at_place count (component_number count pairs) numbers k e less, numbers_long numbers e, number_below (graph count pairs) (pairs_below count pairs ends) k less)
