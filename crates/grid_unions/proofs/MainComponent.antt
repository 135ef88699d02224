-- Component 0 of a graph by the greatest class of a larger one.
use Rattle.std.proofs.Common.{◌≡◌, sym, ap, ◌∙◌, ℕ, ℤ, pos, ◌<◌, List, length, get_or, map, inl, inr, arith}
use Rattle.std.specs.Prelude.{count_by, fold, zip}
use Rattle.std.proofs.lemmas.Bool.{cases_lt}
use Rattle.std.proofs.lemmas.List.{length-map, get_or-map}
use Rattle.grid_graph.specs.Components.{component_numbers}
use Rattle.grid_graph.specs.Graph.{Graph, graph, count_joined}
use Rattle.grid_graph.proofs.Places.{AreBelow}
use Rattle.grid_components.specs.Ranks.{is_key}
use Rattle.grid_components.proofs.Sizes.{joined_some}
use Rattle.grid_unions.specs.Ranks.{IsGreatest}
use Rattle.grid_unions.specs.Summed.{class_sum, no_sums}
use Rattle.grid_unions.specs.declared.summed.Sums.{Sums}
use Rattle.grid_unions.proofs.Subgraphs.{placed, IsEmbedded, small_fit, large_fit, count_embedded, greatest_many, greatest_single, count_single}
use Rattle.grid_unions.proofs.Greatest.{zeros_counted}
use Rattle.grid_unions.proofs.WeightSums.{add_passed, mapped_weights, over_single, over_embedded, over_zeros}

-- ---- class sums

-- a class of one number has that number's weight
pub class_sum_single : (watts : Sums → ℤ) (net : Graph) (weights : List Sums) (a : ℕ) → length weights ≡ net.nodes → AreBelow net.nodes net.pairs → a < net.nodes → count_joined net a ≡ 1
    → class_sum watts net weights a ≡ watts (get_or weights a no_sums)
unfolding class_sum
class_sum_single watts net weights a long fit lt one = over_single watts net weights a no_sums long fit lt one

-- component 0 has the sum of the greatest class
pub class_sum_zeros : (watts : Sums → ℤ) (net : Graph) (k : ℕ) → AreBelow net.nodes net.pairs → IsGreatest net k → (weights : List Sums)
    → fold (add_passed watts (is_key 0)) (pos 0) (zip (component_numbers net.nodes net.pairs) weights) ≡ class_sum watts net weights k
unfolding class_sum
class_sum_zeros watts net k fit g weights = over_zeros watts net k fit g weights

module _ (ids : List ℕ) (pairs : List (ℕ × ℕ)) (count : ℕ) (more : List (ℕ × ℕ)) (s : IsEmbedded ids pairs count more) where
  abbrev small : Graph
  small = graph (length ids) pairs

  abbrev large : Graph
  large = graph count more

  -- a class of numbers in use has the sum that it has in the smaller graph
  pub class_sum_embedded : (watts : Sums → ℤ) (weights all : List Sums) → length weights ≡ length ids → length all ≡ count
      → ((k : ℕ) → k < length ids → get_or all (placed ids k) no_sums ≡ get_or weights k no_sums) → (a : ℕ) → a < length ids
      → class_sum watts large all (placed ids a) ≡ class_sum watts small weights a
  unfolding class_sum
  class_sum_embedded watts weights all long all_long same a lt = over_embedded watts ids pairs count more s weights all no_sums long all_long same a lt

  -- ---- how many buses are of component 0

  -- as many as the larger graph's greatest class has
  pub count_of_main : (m : ℕ) → IsGreatest large m → 0 < length ids → count_by (is_key 0) (component_numbers (length ids) pairs) ≡ count_joined large m
  count_of_main m g some = elim (cases_lt 1 (count_joined large m)) [
    | inl h ↦ (let r = greatest_many ids pairs count more s m g h in
        zeros_counted small r.0 fit r.3 ∙ sym (count_embedded ids pairs count more s r.0 r.1) ∙ ap (count_joined large) r.2)
    | inr h ↦ (let one : count_joined large m ≡ 1 = omega (arith, h, joined_some large m (large_fit ids pairs count more s) g.below) in
        zeros_counted small 0 fit (greatest_single ids pairs count more s m g one some) ∙ count_single ids pairs count more s m g one 0 some ∙ sym one)
  ]
    where
      fit : AreBelow (length ids) pairs
      fit = small_fit ids pairs count more s

  -- ---- and their sums

  module _ {X : Type 0} (watts : Sums → ℤ) (of : X → Sums) (sums : List X) (d : X) (long : length sums ≡ length ids) where
    mapped_long : length (map of sums) ≡ length ids
    mapped_long = length-map sums of ∙ long

    -- where the larger graph's greatest class has more than one number, those of its numbers
    pub sum_of_main : (all : List Sums) → length all ≡ count → ((k : ℕ) → k < length ids → get_or all (placed ids k) no_sums ≡ of (get_or sums k d))
        → (m : ℕ) → IsGreatest large m → 1 < count_joined large m
        → class_sum watts large all m ≡ fold (add_passed (λ x. watts (of x)) (is_key 0)) (pos 0) (zip (component_numbers (length ids) pairs) sums)
    sum_of_main all all_long same m g some =
        let r = greatest_many ids pairs count more s m g some in
        ap (class_sum watts large all) (sym r.2)
        ∙ class_sum_embedded watts (map of sums) all mapped_long all_long (λ k lt. same k lt ∙ sym (get_or-map of sums k d no_sums (omega (arith, lt, long)))) r.0 r.1
        ∙ sym (class_sum_zeros watts small r.0 (small_fit ids pairs count more s) r.3 (map of sums))
        ∙ mapped_weights watts (is_key 0) of (component_numbers (length ids) pairs) sums (pos 0)

    -- where it has one, those of the first bus alone
    pub sum_of_first : (m : ℕ) → IsGreatest large m → count_joined large m ≡ 1 → 0 < length ids
        → fold (add_passed (λ x. watts (of x)) (is_key 0)) (pos 0) (zip (component_numbers (length ids) pairs) sums) ≡ watts (of (get_or sums 0 d))
    sum_of_first m g one some =
        let fit = small_fit ids pairs count more s in
        let first = greatest_single ids pairs count more s m g one some in
        sym (mapped_weights watts (is_key 0) of (component_numbers (length ids) pairs) sums (pos 0))
        ∙ class_sum_zeros watts small 0 fit first (map of sums)
        ∙ class_sum_single watts small (map of sums) 0 mapped_long fit some (count_single ids pairs count more s m g one 0 some)
        ∙ ap watts (get_or-map of sums 0 d no_sums (omega (arith, some, long)))
