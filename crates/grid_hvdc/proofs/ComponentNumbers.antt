-- Lists of components, and which buses have one component's number.
use Rattle.std.proofs.Common.{◌≡◌, refl, sym, ap, ◌∙◌, ℕ, suc, ◌+◌, ◌<◌, true, List, [], ◌∷◌, ◌++◌, length, get_or, map, arith}
use Rattle.std.specs.Prelude.{eqb, zip, count_by}
use Rattle.std.specs.List.{range_with_len}
use Rattle.std.proofs.lemmas.Bool.{eqb-true, eq-eqb}
use Rattle.std.proofs.lemmas.List.Elements.{All-append}
use Rattle.std.proofs.lemmas.List.FromFn.{length-range_with_len, get_or-range_with_len}
use Rattle.grid_graph.specs.Joined.{joined}
use Rattle.grid_graph.specs.Components.{places, component_of, component_number, component_numbers}
use Rattle.grid_graph.specs.Graph.{graph, joined_in, EndsBelow}
use Rattle.grid_graph.proofs.Below.{pairs_below}
use Rattle.grid_graph.proofs.Places.{AreBelow, j_refl, j_below, j_step, j_along}
use Rattle.grid_graph.proofs.Neighbours.{near_first}
use Rattle.grid_components.specs.Ranks.{is_key}
use Rattle.grid_islands.proofs.ComponentSizes.{number_below, same_number, size_as}
use Rattle.grid_islands.specs.Islands.{component_at}
use Rattle.grid_hvdc.specs.declared.numbers.Component.{Component}
use Rattle.grid_hvdc.specs.Numbers.{hvdc_number, sized, sized_at, SynchronousAreConnected, SynchronousIsTold}
use Rattle.grid_islands.proofs.Numbers.{numbers_long}

-- ---- two lists side by side

pub both_made : {X Y Z W : Type 0} (f : X → Y) (g : X → Z) (h : Y × Z → W) (xs : List X) → map h (zip (map f xs) (map g xs)) ≡ map (λ x. h (f x, g x)) xs
both_made f g h [] = refl
both_made f g h (x ∷ xs) = ap (λ z. h (f x, g x) ∷ z) (both_made f g h xs)

-- ---- numbers with their sizes

made_alike : {X Y Z : Type 0} (f : Y → Z) (g : X → Y) (h : X → Z) (P : X → Type 0) (xs : List X) → ((x : X) → P x → f (g x) ≡ h x) → ((k : ℕ) (d : X) → k < length xs → P (get_or xs k d)) → map f (map g xs) ≡ map h xs
made_alike f g h P [] e p = refl
made_alike f g h P (x ∷ xs) e p = ap (λ z. z ∷ map f (map g xs)) (e x (p 0 x (omega arith))) ∙ ap (λ z. h x ∷ z) (made_alike f g h P xs e (λ k d lt. p (suc k) d (omega (arith, lt))))

abbrev build : ℕ → ℕ → Component
build x y = record { number = x; size = y }

module _ (count : ℕ) (pairs : List (ℕ × ℕ)) (ends : EndsBelow pairs count) where
  size_at : (numbers sizes : List ℕ) (v : ℕ) → numbers ≡ component_numbers count pairs → ((s : ℕ) → s < length numbers → get_or sizes s 0 ≡ count_by (is_key s) numbers)
      → v < count → get_or sizes (component_number count pairs v) 0 ≡ length (component_of count pairs v)
  size_at numbers sizes v e each lt =
      let fit = pairs_below count pairs ends in
      each (component_number count pairs v) (omega (arith, number_below (graph count pairs) fit v lt, numbers_long count pairs ends numbers e))
      ∙ ap (count_by (is_key (component_number count pairs v))) e ∙ size_as (graph count pairs) fit v lt

  at_each : (n low k d : ℕ) → k < length (range_with_len low n) → get_or (range_with_len low n) k d < low + n
  at_each n low k d lt = omega (arith, get_or-range_with_len low n k d (omega (arith, length-range_with_len low n, lt)), length-range_with_len low n, lt)

  pub sized_as : (numbers sizes : List ℕ) → numbers ≡ component_numbers count pairs → ((s : ℕ) → s < length numbers → get_or sizes s 0 ≡ count_by (is_key s) numbers)
      → map (sized sizes) numbers ≡ map (sized_at count pairs) (places count)
  unfolding component_numbers places
  sized_as numbers sizes e each =
      ap (map (sized sizes)) e
      ∙ made_alike (sized sizes) (component_number count pairs) (sized_at count pairs) (λ v. v < count) (range_with_len 0 count)
      (λ v lt. ap (λ z. build (component_number count pairs v) z) (size_at numbers sizes v e each lt))
      (λ k d lt. omega (arith, at_each count 0 k d lt))

-- ---- buses of one component

pub ends_of_both : (count : ℕ) (first others : List (ℕ × ℕ)) → EndsBelow first count → EndsBelow others count → EndsBelow (first ++ others) count
ends_of_both count first others f g = All-append (λ pair. (pair.0 < count) × (pair.1 < count)) first others f g

-- more pairs join no less
joined_by_more : (count : ℕ) (first others : List (ℕ × ℕ)) → AreBelow count first → AreBelow count (first ++ others) → (a b : ℕ) → a < count → joined (places count) first a b ≡ true → joined (places count) (first ++ others) a b ≡ true
joined_by_more count first others fit more a b lt h =
    j_along count first fit (joined (places count) (first ++ others) a)
    (λ x c p i. j_step count (first ++ others) more a x c lt (j_below count (first ++ others) more a x lt p) p (near_first first others x c i))
    a b (j_refl count (first ++ others) more a) h

pub same_component : SynchronousAreConnected
unfolding hvdc_number joined_in
same_component count branches links f g a b lt less e =
    let fit = pairs_below count branches f in
    let more = pairs_below count (branches ++ links) (ends_of_both count branches links f g) in
    let test : eqb (component_number count branches b) (component_number count branches a) ≡ true = eq-eqb (component_number count branches b) (component_number count branches a) (sym e) in
    let h : joined (places count) branches a b ≡ true = sym (same_number (graph count branches) fit a b lt less) ∙ test in
    let k : joined (places count) (branches ++ links) a b ≡ true = joined_by_more count branches links fit more a b lt h in
    sym (eqb-true (component_number count (branches ++ links) b) (component_number count (branches ++ links) a) (same_number (graph count (branches ++ links)) more a b lt less ∙ k))

pub told : SynchronousIsTold
unfolding hvdc_number component_at
told count branches links bus = (refl, refl)
