-- The figures do not depend on the order of pairs, nor on how often each stands.
use Rattle.std.proofs.Common.{◌≡◌, refl, ap, ◌∙◌, ℕ, Bool, true, false, cond, not, ◌&&◌, List, [], ◌∷◌, length, map}
use Rattle.std.specs.Prelude.{filter, nat_lt, count_by}
use Rattle.std.specs.List.{list_any}
use Rattle.grid_graph.specs.Joined.{joined, is_least, least_nodes, group_of, groups}
use Rattle.grid_graph.specs.Components.{places, component_of, component_number, component_numbers, ranks_before}
use Rattle.grid_graph.specs.Graph.{joined_in}
use Rattle.grid_graph.proofs.Reach.{In, In_here, In_there}
use Rattle.grid_graph.proofs.Places.{places_In}
use Rattle.grid_graph.proofs.FilteredNodes.{filters_same}
use Rattle.grid_unions.proofs.Orders.{AreAlike, alike_joined}
use Rattle.grid_unions.specs.declared.summed.Sums.{Sums}
use Rattle.grid_figures.specs.Figures.{figures_by}

-- tests that agree on the items of a list
any_same : (p q : ℕ → Bool) (xs : List ℕ) → ((x : ℕ) → In x xs → p x ≡ q x) → list_any p xs ≡ list_any q xs
any_same p q [] h = refl
any_same p q (x ∷ xs) h = rw (h x (In_here x xs), any_same p q xs (λ y i. h y (In_there y x xs i))) refl

maps_same : {X : Type 0} (f g : ℕ → X) (xs : List ℕ) → ((x : ℕ) → In x xs → f x ≡ g x) → map f xs ≡ map g xs
maps_same f g [] h = refl
maps_same f g (x ∷ xs) h = rw (h x (In_here x xs), maps_same f g xs (λ y i. h y (In_there y x xs i))) refl

picked_same : {X : Type 0} (f g : ℕ → X) (p q : ℕ → Bool) (xs : List ℕ) → ((x : ℕ) → In x xs → f x ≡ g x) → ((x : ℕ) → In x xs → p x ≡ q x) → map f (filter p xs) ≡ map g (filter q xs)
picked_same f g p q [] h k = refl
picked_same {X = X} f g p q (x ∷ xs) h k = rw (k x (In_here x xs)) (by (q x) (h x (In_here x xs)) (picked_same f g p q xs (λ y i. h y (In_there y x xs i)) (λ y i. k y (In_there y x xs i))))
  where
    by : (t : Bool) → f x ≡ g x → map f (filter p xs) ≡ map g (filter q xs) → map f (cond t (x ∷ filter p xs) (filter p xs)) ≡ map g (cond t (x ∷ filter q xs) (filter q xs))
    by true here rest = rw (here, rest) refl
    by false here rest = rest

module _ (count : ℕ) (first second : List (ℕ × ℕ)) (s : AreAlike count first second) where
  joins_same : (a b : ℕ) → In a (places count) → joined (places count) first a b ≡ joined (places count) second a b
  unfolding joined_in
  joins_same a b i = alike_joined count first second s a b (places_In a count i)

  group_same : (a : ℕ) → In a (places count) → group_of (places count) first a ≡ group_of (places count) second a
  unfolding group_of
  group_same a i = filters_same (joined (places count) first a) (joined (places count) second a) (places count) (λ b _. joins_same a b i)

  leads_same : (a : ℕ) → In a (places count) → is_least (places count) first a ≡ is_least (places count) second a
  unfolding is_least
  leads_same a i =
      ap not (any_same (λ b. nat_lt b a && joined (places count) first a b) (λ b. nat_lt b a && joined (places count) second a b) (places count)
      (λ b _. ap (λ z. nat_lt b a && z) (joins_same a b i)))

  groups_same : groups (places count) first ≡ groups (places count) second
  unfolding groups least_nodes
  groups_same =
      picked_same (group_of (places count) first) (group_of (places count) second) (is_least (places count) first) (is_least (places count) second) (places count) group_same leads_same

  number_same : (a : ℕ) → In a (places count) → component_number count first a ≡ component_number count second a
  unfolding component_number component_of
  number_same a i =
      ap (λ g. count_by (λ other. ranks_before other g) (groups (places count) first)) (group_same a i)
      ∙ ap (count_by (λ other. ranks_before other (group_of (places count) second a))) groups_same

  numbers_same : component_numbers count first ≡ component_numbers count second
  unfolding component_numbers
  numbers_same = maps_same (component_number count first) (component_number count second) (places count) number_same

-- the figures of the same pairs
pub figures_alike : (sums : List Sums) (first second : List (ℕ × ℕ)) → AreAlike (length sums) first second → figures_by sums first ≡ figures_by sums second
unfolding figures_by
figures_alike sums first second s = rw (groups_same (length sums) first second s, numbers_same (length sums) first second s) refl
