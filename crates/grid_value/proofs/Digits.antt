-- Texts of digits alone, as numbers of JSON.
use Rattle.std.proofs.Common.{◌≡◌, ℕ, ◌^◌, ◌<◌, ◌≤◌, true, false, ◌==◌, List, [], length, get_or, Some, option_and_then, pos, sym, ap, ◌∙◌, refl, arith, append-nil, lt-ltb, ne_eqb}
use Rattle.std.proofs.Math.Nat.{pow-le-pow_right}
use Rattle.std.specs.Str.Parse.{AllDigits, IsNumeral, digits_value}
use Rattle.std.proofs.lemmas.Int.Digits.{digits_value-lt}
use Rattle.std.proofs.lemmas.Str.Parse.{digit_at}
use Rattle.fast_float.specs.Text.{Parts, scan, digits_of, IsWellFormed}
use Rattle.fast_float.proofs.Writing.{scan-text_of}
use Rattle.serde_json.specs.Data.{unsigned}
use Rattle.serde_json.specs.Find.{as_i64}
use Rattle.serde_json.specs.Read.{number_of, number_from, is_integer}

-- eighteen digits are worth less than ten to the eighteenth
pub few_below : (ds : List ℕ) → AllDigits 10 ds → length ds ≤ 18 → digits_value 10 ds < 10 ^ 18
few_below ds digits few = omega (arith, digits_value-lt 10 ds digits, pow-le-pow_right {n = 10} (omega arith) {i = length ds} {j = 18} few)

abbrev whole_alone : List ℕ → Parts
whole_alone ds = record { whole = ds; point = false; fraction = []; exponent_negative = false; exponent = []; len = length ds }

scan-digits : (ds : List ℕ) → AllDigits 10 ds → scan ds ≡ whole_alone ds
scan-digits ds digits =
    let formed : IsWellFormed (whole_alone ds) = record { whole_digits = digits; fraction_digits = tt; exponent_digits = tt; no_point = λ _. refl; no_exponent = λ _. refl; len_is = rw append-nil } in
    rw append-nil at (scan-text_of (whole_alone ds) formed)

-- a text of a few digits is the whole number that they write
pub number_of-few : (ds : List ℕ) (n : ℕ) → (IsNumeral 10 ds × (length ds ≤ 18)) × (n ≡ digits_value 10 ds) → number_of ds ≡ Some (unsigned n)
unfolding number_of
number_of-few ds n few =
    let numeral : IsNumeral 10 ds = few.0.0 in
    let no_minus : (get_or ds 0 0 == 45) ≡ false = ne_eqb _ 45 (λ e. absurd (omega (arith, digit_at ds 0 numeral.1 numeral.0))) in
    let integer : is_integer (whole_alone ds) ≡ true = rw (lt-ltb _ _ numeral.0) in
    let worth : digits_of (whole_alone ds) ≡ n = rw append-nil (sym few.1) in
    let fits : n < 2 ^ 64 = omega (arith, few.1, few_below ds numeral.1 few.0.1) in
    rw no_minus (ap (number_from false) (scan-digits ds numeral.1) ∙ rw (integer, worth) (rw (lt-ltb _ _ fits)))

-- and fits 64 bits with a sign
pub as_i64-few : (ds : List ℕ) (n : ℕ) → (IsNumeral 10 ds × (length ds ≤ 18)) × (n ≡ digits_value 10 ds) → option_and_then as_i64 (number_of ds) ≡ Some (pos n)
as_i64-few ds n few =
    let fits : n < 2 ^ 63 = omega (arith, few.1, few_below ds few.0.0.1 few.0.1) in
    ap (option_and_then as_i64) (number_of-few ds n few) ∙ rw (lt-ltb _ _ fits)
