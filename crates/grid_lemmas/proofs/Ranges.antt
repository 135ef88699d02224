-- Numbers in a row.
use Rattle.std.proofs.Common.{Option, Some, [], add-one, ap, arith, suc, zero, ℕ, ◌++◌, ◌+◌, ◌∙◌, ◌∷◌, ◌≡◌}
use Rattle.std.proofs.lemmas.List.Elements.{filter_map-append}
use Rattle.std.specs.List.{cons_option, filter_map, range_with_len}

pub range_more : (a n j : ℕ) → a + n ≡ j → range_with_len a (suc n) ≡ range_with_len a n ++ j ∷ []
range_more a zero j e = let same : a ≡ j = omega (arith, e) in ap (λ z. z ∷ []) same
range_more a (suc n) j e = ap (λ z. a ∷ z) (range_more (a + 1) n j (omega (arith, e)))

pub range_last : (a n : ℕ) → range_with_len a (suc n) ≡ range_with_len a n ++ (a + n) ∷ []
range_last a zero =
    let e : a ≡ a + 0 = omega arith in
    ap (λ x. x ∷ []) e
range_last a (suc n) =
    let e : (a + 1) + n ≡ a + suc n = omega arith in
    ap (λ l. a ∷ l) (range_last (a + 1) n ∙ ap (λ x. range_with_len (a + 1) n ++ x ∷ []) e)

pub given_more : {X : Type 0} (f : ℕ → Option X) (n : ℕ) (x : X) → f n ≡ Some x → filter_map f (range_with_len 0 (n + 1)) ≡ filter_map f (range_with_len 0 n) ++ x ∷ []
given_more f n x found =
    let e : 0 + n ≡ n = omega arith in
    ap (λ k. filter_map f (range_with_len 0 k)) (add-one n)
    ∙ ap (filter_map f) (range_last 0 n)
    ∙ filter_map-append f (range_with_len 0 n) ((0 + n) ∷ [])
    ∙ ap (λ o. filter_map f (range_with_len 0 n) ++ cons_option o []) (ap f e ∙ found)
