-- What a sweep finds of a graph in which buses are embedded.
use Rattle.std.proofs.Common.{◌≡◌, refl, sym, ap, ◌∙◌, subst, ℕ, ◌<◌, ◌≤◌, List, [], ◌∷◌, length, get_or, arith, Option, Some, None}
use Rattle.std.specs.Prelude.{slice_get}
use Rattle.grid_graph.specs.Graph.{graph, count_joined}
use Rattle.grid_graph.specs.Components.{places, component_numbers}
use Rattle.grid_components.proofs.Sizes.{joined_some}
use Rattle.grid_unions.specs.Summed.{no_sums}
use Rattle.grid_unions.specs.Sweep.{IsFound}
use Rattle.grid_unions.specs.declared.summed.Sums.{Sums}
use Rattle.grid_unions.specs.declared.sweeps.Found.{Found}
use Rattle.grid_unions.proofs.Subgraphs.{placed, IsEmbedded, large_fit, groups_embedded, greatest_many}
use Rattle.grid_unions.proofs.MainComponent.{count_of_main, sum_of_main, sum_of_first}
use Rattle.grid_figures.specs.Figures.{main_sum}
use Rattle.grid_figures.specs.Seen.{IsMain, IsFirstMain, IsSeen}
use Rattle.grid_figures.proofs.BusNumbers.{rising_few}

-- no bus has no main component
empty_main : (sums : List Sums) (pairs : List (ℕ × ℕ)) → IsMain 0 sums pairs 0 no_sums
unfolding component_numbers places main_sum
empty_main sums pairs = record { count = refl; load = refl; generation = refl }

first_got : (xs : List Sums) (x : Sums) → slice_get xs 0 ≡ Some x → (0 < length xs) × (get_or xs 0 no_sums ≡ x)
first_got [] x h = absurd (cc)
first_got (y ∷ ys) x h = (omega arith, cc)

none_got : (xs : List Sums) → slice_get xs 0 ≡ None → length xs ≡ 0
none_got [] h = refl
none_got (x ∷ xs) h = absurd (cc)

module _ (ids : List ℕ) (pairs : List (ℕ × ℕ)) (all : List Sums) (more : List (ℕ × ℕ)) (sums : List Sums) (found : Found)
    (s : IsEmbedded ids pairs (length all) more) (long : length sums ≡ length ids)
    (same : (k : ℕ) → k < length ids → get_or all (placed ids k) no_sums ≡ get_or sums k no_sums) (f : IsFound all (graph (length all) more) found) where
  -- a class of more than one number
  main_many : 1 < found.size → IsMain (length ids) sums pairs found.size found.sums
  unfolding main_sum
  main_many some =
      let size = f.size in
      let greater : 1 < count_joined (graph (length all) more) found.main = omega (arith, some, size) in
      let k = greatest_many ids pairs (length all) more s found.main f.main greater in
      record {
        count = size ∙ sym (count_of_main ids pairs (length all) more s found.main f.main (omega (arith, k.1)));
        load = f.load ∙ sum_of_main ids pairs (length all) more s (λ z. z.load) (λ z. z) sums no_sums long all refl same found.main f.main greater;
        generation = f.generation ∙ sum_of_main ids pairs (length all) more s (λ z. z.generation) (λ z. z) sums no_sums long all refl same found.main f.main greater;
      }

  -- classes of one number each
  main_first : found.size ≤ 1 → (own : Option Sums) → slice_get sums 0 ≡ own → IsFirstMain (length ids) sums pairs own
  unfolding main_sum
  main_first few (Some own) e =
      let size = f.size in
      let one : count_joined (graph (length all) more) found.main ≡ 1 =
      omega (arith, few, size, joined_some (graph (length all) more) found.main (large_fit ids pairs (length all) more s) f.main.below) in
      let first = first_got sums own e in
      let some : 0 < length ids = omega (arith, first.0, long) in
      record {
        count = sym (count_of_main ids pairs (length all) more s found.main f.main some ∙ one);
        load = sym (sum_of_first ids pairs (length all) more s (λ z. z.load) (λ z. z) sums no_sums long found.main f.main one some ∙ ap (λ z. z.load) first.1);
        generation = sym (sum_of_first ids pairs (length all) more s (λ z. z.generation) (λ z. z) sums no_sums long found.main f.main one some ∙ ap (λ z. z.generation) first.1);
      }
  main_first few None e =
      let none : length ids ≡ 0 = omega (arith, none_got sums e, long) in
      let P : ℕ → Type 0 = λ z. IsMain z sums pairs 0 no_sums in
      subst P (sym none) (empty_main sums pairs)

  pub seen : IsSeen (length ids) sums pairs (length all) found
  seen = record {
    few = rising_few ids (length all) s.rise s.below;
    classes = (let classes = f.classes in omega (arith, classes, groups_embedded ids pairs (length all) more s));
    many = main_many;
    one = λ few. main_first few (slice_get sums 0) refl;
  }
