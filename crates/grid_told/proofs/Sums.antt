-- Sums, and the names of buses.
use Rattle.std.proofs.Common.{◌≡◌, ℕ, suc, ℤ, pos, negsuc, neg_ℤ, ◌-◌, ◌^◌, Bool, true, false, List, [], ◌∷◌, ◌++◌, length, drop, refl, ap, ◌∙◌, arith}
use Rattle.std.specs.Prelude.{IsUtf8, decimal, codes, int_le, int_lt, if◌then◌else◌}
use Rattle.std.proofs.lemmas.Bool.{and_parts, leb-true, ltb-true}
use Rattle.std.proofs.lemmas.Fmt.{IsAscii-decimal_wide}
use Rattle.std.proofs.lemmas.Str.{IsUtf8-append, IsUtf8-from_ascii}
use Rattle.std.proofs.Math.Seq.{drop-append_seam}
use Rattle.json.proofs.Printed.Utf8.{IsUtf8-are_ascii}
use Rattle.serde_json.specs.Data.{Data, null, boolean, number, string, array, object}
use Rattle.grid_print.specs.Objects.{whole}
use Rattle.grid_report.specs.Words.{signed}
use Rattle.grid_report.specs.Lines.{bus_name}
use Rattle.grid_jsonl.specs.Trees.{has_64_bits, sum_value}
use Rattle.grid_told.specs.Held.{IsUnsigned, IsSigned, IsSum}
use Rattle.grid_told.specs.Shapes.{IsReadable}
use Rattle.grid_told.proofs.Digits.{IsWideSum, decimal_in, decimal_back, signed_in, signed_back}
use Rattle.grid_told.proofs.Fields.{whole_of}
use Rattle.grid_told.proofs.Readable.{text_readable, whole_readable}

-- ---- sums

pub sum_wide : (z : ℤ) → IsSum z → IsWideSum z
sum_wide (pos n) h = omega (arith, h)
sum_wide (negsuc n) h = omega (arith, h)

pub signed_wide : (z : ℤ) → IsSigned z → IsWideSum z
signed_wide (pos n) h = omega (arith, h)
signed_wide (negsuc n) h = omega (arith, h)

pub signed_utf8 : (z : ℤ) → IsWideSum z → IsUtf8 (signed z)
unfolding signed
signed_utf8 (pos n) h = IsUtf8-from_ascii (decimal n) (IsAscii-decimal_wide n h)
signed_utf8 (negsuc n) h = IsUtf8-append (45 ∷ []) (decimal (suc n)) (IsUtf8-are_ascii (45 ∷ []) refl) (IsUtf8-from_ascii (decimal (suc n)) (IsAscii-decimal_wide (suc n) h))

short : (z : ℤ) → has_64_bits z ≡ true → IsSigned z
unfolding has_64_bits
short (pos n) e = ltb-true n (2 ^ 63) (and_parts (int_le (neg_ℤ (pos (2 ^ 63))) (pos n)) (int_lt (pos n) (pos (2 ^ 63))) e).1
short (negsuc n) e =
    let least = (and_parts (int_le (neg_ℤ (pos (2 ^ 63))) (negsuc n)) (int_lt (negsuc n) (pos (2 ^ 63))) e).0 in
    omega (arith, leb-true n (2 ^ 63 - 1) least)

pub sum_readable : (n : ℕ) (z : ℤ) → IsSum z → IsReadable n (sum_value z)
unfolding sum_value
sum_readable n z h = by (has_64_bits z) refl
  where
    by : (b : Bool) → has_64_bits z ≡ b → IsReadable n (if b then whole z else string (signed z))
    by true e = whole_readable n z (short z e)
    by false e = text_readable n (signed z) (signed_utf8 z (sum_wide z h))

-- the sum that a number or a text is
abbrev pub sum_of : Data → ℤ
sum_of null = pos 0
sum_of (boolean b) = pos 0
sum_of (number n) = whole_of (number n)
sum_of (string s) = signed_in s
sum_of (array ds) = pos 0
sum_of (object ms) = pos 0

pub whole_back : (z : ℤ) → whole_of (whole z) ≡ z
whole_back (pos n) = refl
whole_back (negsuc n) = refl

whole_sum : (z : ℤ) → sum_of (whole z) ≡ z
whole_sum (pos n) = refl
whole_sum (negsuc n) = refl

pub sum_back : (z : ℤ) → IsSum z → sum_of (sum_value z) ≡ z
unfolding sum_value signed
sum_back z h = by (has_64_bits z)
  where
    by : (b : Bool) → sum_of (if b then whole z else string (signed z)) ≡ z
    by true = whole_sum z
    by false = signed_back z (sum_wide z h)

-- ---- the names of buses

pub name_utf8 : (level : List ℕ) (least : ℕ) → IsUtf8 level → IsUnsigned least → IsUtf8 (bus_name level least)
name_utf8 level least h k =
    IsUtf8-append (level ++ codes "_") (decimal least) (IsUtf8-append level (codes "_") h (IsUtf8-are_ascii (codes "_") refl))
    (IsUtf8-from_ascii (decimal least) (IsAscii-decimal_wide least (omega (arith, k))))

-- the least node, behind the level's id
abbrev pub least_in : List ℕ → List ℕ → ℕ
least_in level name = decimal_in (drop (length (level ++ codes "_")) name)

pub least_back : (level : List ℕ) (least : ℕ) → IsUnsigned least → least_in level (bus_name level least) ≡ least
least_back level least h = ap decimal_in (drop-append_seam (level ++ codes "_") (decimal least)) ∙ decimal_back least (omega (arith, h))
