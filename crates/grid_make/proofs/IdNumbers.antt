-- Ids of a letter, a number and a tail: they differ where the numbers differ.
use Rattle.std.proofs.Common.{◌≡◌, refl, ◌∙◌, ℕ, ◌+◌, ◌^◌, ◌<◌, ◌≤◌, ◌%◌, Bool, true, false, List, [], ◌∷◌, ◌++◌, arith}
use Rattle.std.specs.Prelude.{nat_le, nat_lt, decimal}
use Rattle.std.specs.List.{list_all}
use Rattle.std.proofs.lemmas.Bool.{and_parts, and_from, le-leb, leb-true, ltb-true, eq-eqb}
use Rattle.std.proofs.lemmas.Fmt.{decimal_by_steps, decimal_injective}
use Rattle.std.proofs.lemmas.List.Folds.{list_all-append}
use Rattle.grid_ids.specs.Name.{same_id}
use Rattle.grid_ids.proofs.Alike.{same_is}

-- empty, or begun with what is no digit
abbrev pub is_tail : List ℕ → Bool
is_tail [] = true
is_tail (c ∷ cs) = nat_lt 57 c

abbrev is_low : ℕ → Bool
is_low c = nat_le c 57

-- what each digit passes, a number's digits pass
pub decimal_all : (test : ℕ → Bool) → ((d : ℕ) → d < 10 → test (48 + d) ≡ true) → (n : ℕ) → n < 2 ^ 64 → list_all test (decimal n) ≡ true
decimal_all test digit n small = decimal_by_steps (λ n ds. list_all test ds ≡ true) (λ n l. and_from (test (48 + n)) true (digit n l) refl) more n small
  where
    more : (n : ℕ) (ds : List ℕ) → 10 ≤ n → list_all test ds ≡ true → list_all test (ds ++ (48 + n % 10) ∷ []) ≡ true
    more n ds l h = list_all-append test ds ((48 + n % 10) ∷ []) ∙ and_from _ _ h (and_from (test (48 + n % 10)) true (digit (n % 10) (omega arith)) refl)

decimal_low : (n : ℕ) → n < 2 ^ 64 → list_all is_low (decimal n) ≡ true
decimal_low n small = decimal_all is_low (λ d l. le-leb (48 + d) 57 (omega (arith, l))) n small

-- what stands before the tail is told by it
fronts_same : (ds es t u : List ℕ) → list_all is_low ds ≡ true → list_all is_low es ≡ true → is_tail t ≡ true → is_tail u ≡ true → ds ++ t ≡ es ++ u → ds ≡ es
fronts_same [] [] t u a b p q e = refl
fronts_same [] (y ∷ es) [] u a b p q e = cc
fronts_same [] (y ∷ es) (c ∷ t) u a b p q e =
    let same : c ≡ y = cc in
    let low : y ≤ 57 = leb-true y 57 (and_parts (is_low y) (list_all is_low es) b).0 in
    let high : 57 < c = ltb-true 57 c p in
    absurd (omega (arith, same, low, high))
fronts_same (x ∷ ds) [] t [] a b p q e = cc
fronts_same (x ∷ ds) [] t (c ∷ u) a b p q e =
    let same : x ≡ c = cc in
    let low : x ≤ 57 = leb-true x 57 (and_parts (is_low x) (list_all is_low ds) a).0 in
    let high : 57 < c = ltb-true 57 c q in
    absurd (omega (arith, same, low, high))
fronts_same (x ∷ ds) (y ∷ es) t u a b p q e =
    let same : x ≡ y = cc in
    let rest : ds ++ t ≡ es ++ u = cc in
    let again = fronts_same ds es t u (and_parts (is_low x) (list_all is_low ds) a).1 (and_parts (is_low y) (list_all is_low es) b).1 p q rest in
    cc

numbers_same : (c d i j : ℕ) (t u : List ℕ) → i < 2 ^ 64 → j < 2 ^ 64 → is_tail t ≡ true → is_tail u ≡ true → c ∷ (decimal i ++ t) ≡ d ∷ (decimal j ++ u) → i ≡ j
numbers_same c d i j t u small1 small2 p q e =
    let rest : decimal i ++ t ≡ decimal j ++ u = cc in
    decimal_injective i j small1 small2 (fronts_same (decimal i) (decimal j) t u (decimal_low i small1) (decimal_low j small2) p q rest)

-- ids of different numbers differ
pub numbers_apart : (c d i j : ℕ) (t u : List ℕ) → j < i → i < 2 ^ 64 → is_tail t ≡ true → is_tail u ≡ true → same_id (c ∷ (decimal i ++ t)) (d ∷ (decimal j ++ u)) ≡ false
numbers_apart c d i j t u less small p q = by (same_id (c ∷ (decimal i ++ t)) (d ∷ (decimal j ++ u))) refl
  where
    by : (b : Bool) → same_id (c ∷ (decimal i ++ t)) (d ∷ (decimal j ++ u)) ≡ b → b ≡ false
    by true e = absurd (omega (arith, less, numbers_same c d i j t u small (omega arith) p q (same_is _ _ e)))
    by false e = refl

-- behind the same front, tails decide
pub tails_decide : (front t u : List ℕ) → same_id (front ++ t) (front ++ u) ≡ same_id t u
tails_decide [] t u = refl
tails_decide (c ∷ front) t u = rw (eq-eqb c c refl) (tails_decide front t u)
