-- The number of a text, from what a parse of it gave.
use Rattle.std.proofs.Common.{◌≡◌, ℕ, zero, suc, ◌+◌, ◌-◌, ◌<◌, ◌≤◌, ◌^◌, Bool, true, false, cond, List, Some, None, Result, Ok, refl, sym, ap, ◌∙◌, inl, inr, arith}
use Rattle.std.specs.Prelude.{find, decimal}
use Rattle.std.specs.List.{range_with_len}
use Rattle.std.specs.Str.{bytes_eq}
use Rattle.std.specs.Str.Parse.{ParsesUnsigned}
use Rattle.std.proofs.lemmas.Bool.{cases_lt, true≢false}
use Rattle.std.proofs.lemmas.Fmt.{decimal_injective, parse-decimal}
use Rattle.std.proofs.lemmas.Slice.Eq.{bytes_eq-Decides}
use Rattle.grid_forms.specs.Words.{number_among}

-- a test that holds of one number alone finds just that one
only : (test : ℕ → Bool) (first count n : ℕ) → first ≤ n → n < first + count → test n ≡ true → ((m : ℕ) → m < first + count → test m ≡ true → m ≡ n) → find test (range_with_len first count) ≡ Some n
only test first zero n low high holds one = absurd (omega arith)
only test first (suc count) n low high holds one = by (test first) refl (λ later. only test (first + 1) count n later (omega arith) holds (λ m below. one m (omega arith)))
  where
    behind : (m : ℕ) → first ≤ m → test first ≡ false → test m ≡ true → first + 1 ≤ m
    behind m low fails holds = elim (cases_lt first m) [
      | inl less ↦ omega (arith, less)
      | inr more ↦ let same : first ≡ m = omega (arith, more, low) in absurd (true≢false (sym holds ∙ ap test (sym same) ∙ fails))
    ]

    by : (b : Bool) → test first ≡ b → (first + 1 ≤ n → find test (range_with_len (first + 1) count) ≡ Some n) → cond b (Some first) (find test (range_with_len (first + 1) count)) ≡ Some n
    by true e again = ap Some (one first (omega arith) e)
    by false e again = again (behind n low e holds)

nothing : (test : ℕ → Bool) (first count : ℕ) → ((m : ℕ) → first ≤ m → m < first + count → test m ≡ true → ⊥) → find test (range_with_len first count) ≡ None
nothing test first zero none = refl
nothing test first (suc count) none = by (test first) refl (nothing test (first + 1) count (λ m low high. none m (omega arith) (omega arith)))
  where
    by : (b : Bool) → test first ≡ b → find test (range_with_len (first + 1) count) ≡ None → cond b (Some first) (find test (range_with_len (first + 1) count)) ≡ None
    by true e again = absurd (none first (omega arith) (omega arith) e)
    by false e again = again

same_text : (m n : ℕ) (text : List ℕ) → m < 2 ^ 32 → n < 2 ^ 32 → bytes_eq (decimal m) text ≡ true → bytes_eq (decimal n) text ≡ true → m ≡ n
same_text m n text small few left right =
    decimal_injective m n (omega arith) (omega arith) ((bytes_eq-Decides (decimal m) text).0 left ∙ sym ((bytes_eq-Decides (decimal n) text).0 right))

pub number_found : (least most n : ℕ) (text : List ℕ) → most < 2 ^ 32 → least ≤ n → n ≤ most → bytes_eq (decimal n) text ≡ true → Some n ≡ number_among least most text
unfolding number_among
number_found least most n text few low high written =
    sym (only (λ m. bytes_eq (decimal m) text) least ((most + 1) - least) n low (omega arith) written (λ m below holds. same_text m n text (omega arith) (omega arith) holds written))

-- no number is written where none that a parse gives is
pub number_missing : {E : Type 0} (least most : ℕ) (text : List ℕ) (parsed : Result ℕ E) → most < 2 ^ 32 → ParsesUnsigned 32 10 text parsed
    → ((n : ℕ) → parsed ≡ Ok n → least ≤ n → n ≤ most → bytes_eq (decimal n) text ≡ true → ⊥) → None ≡ number_among least most text
unfolding number_among
number_missing least most text parsed few parses none =
    sym (nothing (λ m. bytes_eq (decimal m) text) least ((most + 1) - least)
    (λ m low high holds. none m (parse-decimal 32 m text parsed (omega arith) (omega arith) (sym ((bytes_eq-Decides (decimal m) text).0 holds)) parses) low (omega arith) holds))
