-- Two lists, item by item.
use Rattle.std.proofs.Common.{◌≡◌, sym, ap, ◌∙◌, ℕ, zero, suc, ◌+◌, List, [], ◌∷◌, Some, take, arith}
use Rattle.std.specs.Prelude.{slice_get}

same_next : {X : Type 0} (xs ys : List X) (i : ℕ) (x y : X) → slice_get xs i ≡ Some x → slice_get ys i ≡ Some y → take i xs ≡ take i ys → x ≡ y → take (suc i) xs ≡ take (suc i) ys
same_next [] ys i x y a b h e = absurd (cc)
same_next (p ∷ xs) [] i x y a b h e = absurd (cc)
same_next (p ∷ xs) (q ∷ ys) zero x y a b h e = let here : p ≡ q = cc in ap (λ z. z ∷ []) here
same_next (p ∷ xs) (q ∷ ys) (suc i) x y a b h e =
    let here : p ≡ q = cc in
    let rest : take i xs ≡ take i ys = cc in
    ap (λ z. z ∷ take (suc i) xs) here ∙ ap (λ z. q ∷ z) (same_next xs ys i x y a b rest e)

-- lists that are the same up to a place, and there, are so up to one place more
pub same_more : {X : Type 0} (xs ys : List X) (i : ℕ) (x y : X) → slice_get xs i ≡ Some x → slice_get ys i ≡ Some y → take i xs ≡ take i ys → x ≡ y → take (i + 1) xs ≡ take (i + 1) ys
same_more xs ys i x y a b h e = let next : suc i ≡ i + 1 = omega arith in sym (ap (λ z. take z xs) next) ∙ same_next xs ys i x y a b h e ∙ ap (λ z. take z ys) next
