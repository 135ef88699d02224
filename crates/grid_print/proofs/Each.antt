-- What holds of each element of a list.
use Rattle.std.proofs.Common.{◌≡◌, ℕ, zero, suc, ◌+◌, Bool, true, false, List, [], ◌∷◌, ◌++◌, Some, All, refl, sym, subst, ◌∙◌, ap, arith}
use Rattle.std.specs.Prelude.{nat_lt, slice_get}
use Rattle.std.specs.List.{AllByRecursion, AllWithin, slice_index_or}
use Rattle.std.proofs.lemmas.Bool.{ltb-false, ltb-true}
use Rattle.std.proofs.lemmas.Option.{get_or_from_slice_get}

pub each_of : {A : Type 0} (P : A → Type 0) (xs : List A) → All P xs → AllByRecursion P xs
each_of P [] h = tt
each_of P (x ∷ xs) h = (h 0 x (omega arith), each_of P xs (λ k d l. h (suc k) d (omega (arith, l))))

pub of_each : {A : Type 0} (P : A → Type 0) (xs : List A) → AllByRecursion P xs → All P xs
of_each P [] h k d l = absurd (omega (arith, l))
of_each P (x ∷ xs) h zero d l = h.0
of_each P (x ∷ xs) h (suc k) d l = of_each P xs h.1 k d (omega (arith, l))

pub each_apart : {A : Type 0} (P : A → Type 0) (xs ys : List A) → AllByRecursion P (xs ++ ys) → AllByRecursion P xs × AllByRecursion P ys
each_apart P [] ys h = (tt, h)
each_apart P (x ∷ xs) ys h = let apart = each_apart P xs ys h.1 in ((h.0, apart.0), apart.1)

-- one element more
pub within_more : {A : Type 0} (P : A → Type 0) (xs : List A) (low high : ℕ) (x : A) → slice_get xs high ≡ Some x → AllWithin P xs low high → P x → AllWithin P xs low (high + 1)
within_more P xs low high x at before here k d lo hi = by (nat_lt k high) refl
  where
    by : (t : Bool) → nat_lt k high ≡ t → P (slice_index_or xs k d)
    by true e = before k d lo (ltb-true k high e)
    by false e =
        let same : k ≡ high = omega (arith, ltb-false k high e, hi) in
        subst P (sym (ap (λ n. slice_index_or xs n d) same ∙ get_or_from_slice_get xs high x d at)) here

-- the first part and the part behind it
pub within_both : {A : Type 0} (P : A → Type 0) (xs : List A) (low middle high : ℕ) → AllWithin P xs low middle → AllWithin P xs middle high → AllWithin P xs low high
within_both P xs low middle high front back k d lo hi = by (nat_lt k middle) refl
  where
    by : (t : Bool) → nat_lt k middle ≡ t → P (slice_index_or xs k d)
    by true e = front k d lo (ltb-true k middle e)
    by false e = back k d (ltb-false k middle e) hi
