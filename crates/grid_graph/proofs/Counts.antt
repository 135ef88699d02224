-- How many pass: two tests of which nothing passes both, and a third that whatever passes one of them passes.
use Rattle.std.proofs.Common.{◌≡◌, refl, sym, ap, ◌∙◌, ℕ, ◌+◌, ◌<◌, ◌≤◌, Bool, true, false, cond, List, [], ◌∷◌, length, get_or, arith}
use Rattle.std.specs.Prelude.{filter, count_by, map}
use Rattle.std.specs.List.{range_with_len}
use Rattle.std.proofs.lemmas.Bool.{false≢true}
use Rattle.std.proofs.lemmas.Grind.{same_number_lists}
use Rattle.std.proofs.lemmas.List.Sums.{length-filter, count_by-le-length}
use Rattle.std.proofs.lemmas.List.FromFn.{length-range_with_len, length-map-range_with_len, get_or-map-range_with_len}
use Rattle.grid_graph.specs.Components.{places}
use Rattle.grid_graph.proofs.Reach.{In, In_here, In_there}
use Rattle.grid_graph.proofs.Places.{places_In}

one_step : (s t u : Bool) (x : ℕ) (a b c : List ℕ) → (s ≡ true → u ≡ true) → (t ≡ true → u ≡ true) → (s ≡ true → t ≡ false) → length a + length b ≤ length c
    → length (cond s (x ∷ a) a) + length (cond t (x ∷ b) b) ≤ length (cond u (x ∷ c) c)
one_step true true u x a b c f g h le = absurd (false≢true (sym (h refl)))
one_step true false true x a b c f g h le = omega (arith, le)
one_step true false false x a b c f g h le = absurd (false≢true (f refl))
one_step false true true x a b c f g h le = omega (arith, le)
one_step false true false x a b c f g h le = absurd (false≢true (g refl))
one_step false false true x a b c f g h le = omega (arith, le)
one_step false false false x a b c f g h le = le

filters_le : (p q r : ℕ → Bool) (xs : List ℕ) → ((x : ℕ) → In x xs → p x ≡ true → r x ≡ true) → ((x : ℕ) → In x xs → q x ≡ true → r x ≡ true) → ((x : ℕ) → In x xs → p x ≡ true → q x ≡ false)
    → length (filter p xs) + length (filter q xs) ≤ length (filter r xs)
filters_le p q r [] f g h = omega arith
filters_le p q r (x ∷ xs) f g h =
    one_step (p x) (q x) (r x) x (filter p xs) (filter q xs) (filter r xs) (f x (In_here x xs)) (g x (In_here x xs)) (h x (In_here x xs))
    (filters_le p q r xs (λ y i. f y (In_there y x xs i)) (λ y i. g y (In_there y x xs i)) (λ y i. h y (In_there y x xs i)))

pub counts_le : (n : ℕ) (p q r : ℕ → Bool) → ((x : ℕ) → x < n → p x ≡ true → r x ≡ true) → ((x : ℕ) → x < n → q x ≡ true → r x ≡ true) → ((x : ℕ) → x < n → p x ≡ true → q x ≡ false)
    → count_by p (places n) + count_by q (places n) ≤ count_by r (places n)
counts_le n p q r f g h =
    rw (← length-filter p (places n), ← length-filter q (places n), ← length-filter r (places n))
    (filters_le p q r (places n) (λ x i. f x (places_In x n i)) (λ x i. g x (places_In x n i)) (λ x i. h x (places_In x n i)))

pub count_le : (n : ℕ) (p r : ℕ → Bool) → ((x : ℕ) → x < n → p x ≡ true → r x ≡ true) → count_by p (places n) ≤ count_by r (places n)
count_le n p r f = omega (arith, counts_le n p (λ x. false) r f (λ x lt e. absurd (false≢true e)) (λ x lt e. refl))

pub count_all : (n : ℕ) (p : ℕ → Bool) → count_by p (places n) ≤ n
unfolding places
count_all n p = omega (arith, count_by-le-length p (range_with_len 0 n), length-range_with_len 0 n)

-- a list of numbers by its places
pub by_places : (n : ℕ) (f : ℕ → ℕ) (xs : List ℕ) → length xs ≡ n → ((x : ℕ) → x < n → get_or xs x 0 ≡ f x) → xs ≡ map f (places n)
unfolding places
by_places n f xs long each =
    let longs : length (map f (range_with_len 0 n)) ≡ n = length-map-range_with_len f 0 n in
    same_number_lists xs (map f (range_with_len 0 n)) (long ∙ sym longs) (λ k lt.
    let less : k < n = omega (arith, lt, long) in
    each k less ∙ sym (get_or-map-range_with_len f 0 n k k 0 less (omega arith)))

pub at_place : (n : ℕ) (f : ℕ → ℕ) (xs : List ℕ) (x : ℕ) → xs ≡ map f (places n) → x < n → get_or xs x 0 ≡ f x
unfolding places
at_place n f xs x e lt = ap (λ z. get_or z x 0) e ∙ get_or-map-range_with_len f 0 n x x 0 lt (omega arith)

pub long_places : (n : ℕ) (f : ℕ → ℕ) (xs : List ℕ) → xs ≡ map f (places n) → length xs ≡ n
unfolding places
long_places n f xs e = ap length e ∙ length-map-range_with_len f 0 n
