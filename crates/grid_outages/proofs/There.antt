-- The values of a sparse list with their places.
use Rattle.std.proofs.Common.{◌≡◌, refl, sym, ap, ◌∙◌, subst, ℕ, zero, suc, ◌+◌, ◌<◌, ◌≤◌, List, [], ◌∷◌, length, get_or, map, arith, inl, inr, Option, Some, None}
use Rattle.std.specs.Prelude.{filter_map}
use Rattle.std.specs.List.{enumerate_from}
use Rattle.std.specs.List.Sorted.{IsStrictlyIncreasing}
use Rattle.grid_sparse.specs.Options.{pair_at, present}
use Rattle.grid_outages.proofs.Members.{Among}

module _ {X : Type 0} where
  abbrev listed : ℕ → List (Option X) → List (ℕ × X)
  listed at xs = filter_map pair_at (enumerate_from at xs)

  has_from : (at : ℕ) (xs : List (Option X)) (k j : ℕ) (x : X) → j ≡ at + k → get_or xs k None ≡ Some x → Among (j, x) (listed at xs)
  has_from at [] k j x e is = cc
  has_from at (None ∷ xs) zero j x e is = cc
  has_from at (Some y ∷ xs) zero j x e is = inl (let first : j ≡ at = omega (arith, e) in let same : x ≡ y = cc in ap (λ (n : ℕ). (n, x)) first ∙ ap (λ (z : X). (at, z)) same)
  has_from at (None ∷ xs) (suc k) j x e is = has_from (at + 1) xs k j x (omega (arith, e)) is
  has_from at (Some y ∷ xs) (suc k) j x e is = inr (has_from (at + 1) xs k j x (omega (arith, e)) is)

  -- what is there is among the pairs
  pub is_present : (xs : List (Option X)) (k : ℕ) (x : X) → get_or xs k None ≡ Some x → Among (k, x) (present xs)
  unfolding present
  is_present xs k x is = has_from 0 xs k k x (omega arith) is

  found_from : (at : ℕ) (xs : List (Option X)) (e : ℕ × X) → Among e (listed at xs) → (k : ℕ) × (e.0 ≡ at + k) × (get_or xs k None ≡ Some e.1)
  found_from at [] e i = absurd i
  found_from at (None ∷ xs) e i = let r = found_from (at + 1) xs e i in (suc r.0, omega (arith, r.1), r.2)
  found_from at (Some y ∷ xs) e (inl h) = (0, (let first : e.0 ≡ at = ap (λ (z : ℕ × X). z.0) h in omega (arith, first)), ap (λ (z : ℕ × X). Some z.1) (sym h))
  found_from at (Some y ∷ xs) e (inr i) = let r = found_from (at + 1) xs e i in (suc r.0, omega (arith, r.1), r.2)

  -- and a pair is of what is there
  pub present_is : (xs : List (Option X)) (e : ℕ × X) → Among e (present xs) → get_or xs e.0 None ≡ Some e.1
  unfolding present
  present_is xs e i = let r = found_from 0 xs e i in let same : e.0 ≡ r.0 = omega (arith, r.1) in ap (λ z. get_or xs z None) same ∙ r.2

  abbrev place_of : ℕ × X → ℕ
  place_of e = e.0

  above : (at : ℕ) (xs : List (Option X)) (k : ℕ) → k < length (map place_of (listed at xs)) → at ≤ get_or (map place_of (listed at xs)) k 0
  above at [] k lt = absurd (omega arith)
  above at (None ∷ xs) k lt = let r = above (at + 1) xs k lt in omega (arith, r)
  above at (Some y ∷ xs) zero lt = omega arith
  above at (Some y ∷ xs) (suc k) lt = let r = above (at + 1) xs k (omega arith) in omega (arith, r)

  rises_from : (at : ℕ) (xs : List (Option X)) → IsStrictlyIncreasing (map place_of (listed at xs))
  rises_from at [] k lt = absurd (omega arith)
  rises_from at (None ∷ xs) k lt = rises_from (at + 1) xs k lt
  rises_from at (Some y ∷ xs) zero lt = let r = above (at + 1) xs 0 (omega arith) in omega (arith, r)
  rises_from at (Some y ∷ xs) (suc k) lt =
      let r = rises_from (at + 1) xs k (omega arith) in
      let same : suc (k + 1) ≡ suc k + 1 = omega arith in
      subst (λ z. get_or (map place_of (listed at (Some y ∷ xs))) (suc k) 0 < get_or (map place_of (listed at (Some y ∷ xs))) z 0) same r

  pub places_rise : (xs : List (Option X)) → IsStrictlyIncreasing (map place_of (present xs))
  unfolding present
  places_rise xs = rises_from 0 xs
