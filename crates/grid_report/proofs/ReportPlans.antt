-- What is planned of a report, one item more at a time.
use Rattle.std.proofs.Common.{◌≡◌, ℕ, suc, ◌+◌, List, [], ◌∷◌, ◌++◌, length, sym, ap, ◌∙◌, append_assoc, append-nil, arith, add-one}
use Rattle.std.specs.List.{flat_map, range_with_len}
use Rattle.std.proofs.lemmas.List.Concat.{flat_map-append}
use Rattle.grid_lemmas.proofs.Ranges.{range_last}
use Rattle.grid_report.specs.Outcomes.{numbered}

-- ---- numbered items

module _ {X : Type 0} (text : ℕ → X → List ℕ) where
  pub one_more : (number : ℕ) (xs : List X) (x : X) → numbered text number (xs ++ x ∷ []) ≡ numbered text number xs ++ text (number + length xs) x
  unfolding numbered
  one_more number [] x =
      let e : number + 0 ≡ number = omega arith in
      append-nil (text number x) ∙ ap (λ n. text n x) (sym e)
  one_more number (y ∷ xs) x =
      let e : suc number + length xs ≡ number + suc (length xs) = omega arith in
      ap (λ l. text number y ++ l) (one_more (suc number) xs x ∙ ap (λ n. numbered text (suc number) xs ++ text n x) e) ∙ sym (append_assoc (text number y) (numbered text (suc number) xs) (text (number + suc (length xs)) x))

-- what is planned so far, and a part more
pub part_more : (old now new part next all : List ℕ) → now ≡ old ++ part → new ≡ now ++ next → all ≡ part ++ next → new ≡ old ++ all
part_more old now new part next all p q e = q ∙ ap (λ l. l ++ next) p ∙ append_assoc old part next ∙ ap (λ l. old ++ l) (sym e)

-- ---- workers

-- the texts of the numbers below one more
pub flat_range : (f : ℕ → List ℕ) (n : ℕ) → flat_map f (range_with_len 0 (n + 1)) ≡ flat_map f (range_with_len 0 n) ++ f n
flat_range f n =
    let e : 0 + n ≡ n = omega arith in
    ap (λ k. flat_map f (range_with_len 0 k)) (add-one n)
    ∙ ap (flat_map f) (range_last 0 n)
    ∙ flat_map-append f (range_with_len 0 n) ((0 + n) ∷ [])
    ∙ ap (λ l. flat_map f (range_with_len 0 n) ++ l) (append-nil (f (0 + n)) ∙ ap f e)
