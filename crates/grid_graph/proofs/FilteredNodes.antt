-- Nodes that a test picks, where it holds for none of them or as another does.
use Rattle.std.proofs.Common.{Bool, List, [], false, refl, ℕ, ◌∷◌, ◌≡◌}
use Rattle.std.proofs.lemmas.List.Sums.{length-filter}
use Rattle.std.specs.Prelude.{count_by, filter}
use Rattle.grid_graph.proofs.Reach.{In, In_here, In_there}

pub filters_none : (p : ℕ → Bool) (xs : List ℕ) → ((x : ℕ) → In x xs → p x ≡ false) → filter p xs ≡ []
filters_none p [] h = refl
filters_none p (x ∷ xs) h = let e : p x ≡ false = h x (In_here x xs) in rw e (filters_none p xs (λ y i. h y (In_there y x xs i)))

pub counts_none : (p : ℕ → Bool) (xs : List ℕ) → ((x : ℕ) → In x xs → p x ≡ false) → count_by p xs ≡ 0
counts_none p xs h = rw (← length-filter p xs, filters_none p xs h) refl

pub filters_same : (p q : ℕ → Bool) (xs : List ℕ) → ((x : ℕ) → In x xs → p x ≡ q x) → filter p xs ≡ filter q xs
filters_same p q [] h = refl
filters_same p q (x ∷ xs) h = let e : p x ≡ q x = h x (In_here x xs) in let f : filter p xs ≡ filter q xs = filters_same p q xs (λ y i. h y (In_there y x xs i)) in rw (e, f) refl
