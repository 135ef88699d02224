-- Numbers by their digits, alone and behind other text.
use Rattle.std.proofs.Common.{◌≡◌, ℕ, zero, suc, ℤ, pos, negsuc, ◌+◌, ◌-◌, ◌^◌, ◌<◌, ◌≤◌, ◌/◌, ◌%◌, ◌==◌, Bool, true, false, List, [], ◌∷◌, ◌++◌, Option, Some, None, refl, ap, ◌∙◌, arith}
use Rattle.std.specs.Prelude.{decimal, nat_le, if◌then◌else◌}
use Rattle.std.specs.Fmt.{digits, digits_onto, digit_glyph, signed_decimal}
use Rattle.std.specs.List.{list_all}
use Rattle.std.specs.Str.Parse.{digits_value}
use Rattle.std.proofs.lemmas.Bool.{and_parts, and_from, le-leb, leb-true, ne_eqb}
use Rattle.std.proofs.lemmas.List.Folds.{list_all-append}
use Rattle.std.proofs.lemmas.Fmt.{decimal_is_IsNumeral_wide}

-- ---- the bytes of numbers

-- no byte is below this one
abbrev pub From : ℕ → List ℕ → Type 0
From low bytes = list_all (nat_le low) bytes ≡ true

pub from_more : (low : ℕ) (xs ys : List ℕ) → From low xs → From low ys → From low (xs ++ ys)
from_more low xs ys h k = list_all-append (nat_le low) xs ys ∙ and_from _ _ h k

pub from_cons : (low x : ℕ) (xs : List ℕ) → low ≤ x → From low xs → From low (x ∷ xs)
from_cons low x xs h k = and_from _ _ (le-leb low x h) k

either_from : (low : ℕ) (b : Bool) (xs ys : List ℕ) → From low xs → From low ys → From low (if b then xs else ys)
either_from low true xs ys h k = h
either_from low false xs ys h k = k

glyph_by : (b : Bool) (d : ℕ) → 48 ≤ (if b then 48 + d else 87 + d)
glyph_by true d = omega arith
glyph_by false d = omega arith

glyph_from : (d : ℕ) → 48 ≤ digit_glyph false d
glyph_from d = glyph_by _ d

digits_from : (k n : ℕ) (acc : List ℕ) → From 48 acc → From 48 (digits_onto k 10 false n acc)
digits_from zero n acc h = h
digits_from (suc k) n acc h =
    let next = digit_glyph false (n % 10) ∷ acc in
    let above = from_cons 48 (digit_glyph false (n % 10)) acc (glyph_from (n % 10)) h in
    either_from 48 (n / 10 == 0) next (digits_onto k 10 false (n / 10) next) above (digits_from k (n / 10) next above)

pub decimal_from : (n : ℕ) → From 48 (decimal n)
unfolding digits
decimal_from n = digits_from 64 n [] refl

pub lower : (low high : ℕ) (xs : List ℕ) → low ≤ high → From high xs → From low xs
lower low high [] le h = refl
lower low high (x ∷ xs) le h =
    let parts = and_parts (nat_le high x) (list_all (nat_le high) xs) h in
    from_cons low x xs (omega (arith, le, leb-true high x parts.0)) (lower low high xs le parts.1)

pub signed_from : (z : ℤ) → From 45 (signed_decimal z)
signed_from (pos n) = lower 45 48 (decimal n) (omega arith) (decimal_from n)
signed_from (negsuc n) = from_cons 45 45 (decimal (suc n)) (omega arith) (lower 45 48 (decimal (suc n)) (omega arith) (decimal_from (suc n)))

-- ---- a number by its text

-- a number whose digits tell it
abbrev pub IsWide : ℕ → Type 0
IsWide n = n < 10 ^ 64

abbrev pub IsWideSum : ℤ → Type 0
IsWideSum (pos n) = IsWide n
IsWideSum (negsuc n) = IsWide (suc n)

abbrev pub decimal_in : List ℕ → ℕ
decimal_in text = digits_value 10 text

pub decimal_back : (n : ℕ) → IsWide n → decimal_in (decimal n) ≡ n
decimal_back n h = (decimal_is_IsNumeral_wide n h).1

abbrev pub signed_in : List ℕ → ℤ
signed_in [] = pos 0
signed_in (byte ∷ text) = if byte == 45 then negsuc (decimal_in text - 1) else pos (decimal_in (byte ∷ text))

unsigned_in : (text : List ℕ) → From 48 text → signed_in text ≡ pos (decimal_in text)
unsigned_in [] h = refl
unsigned_in (byte ∷ text) h =
    let parts = and_parts (nat_le 48 byte) (list_all (nat_le 48) text) h in
    rw (ne_eqb byte 45 (λ e. omega (arith, leb-true 48 byte parts.0))) refl

pub signed_back : (z : ℤ) → IsWideSum z → signed_in (signed_decimal z) ≡ z
signed_back (pos n) h = unsigned_in (decimal n) (decimal_from n) ∙ ap pos (decimal_back n h)
signed_back (negsuc n) h = ap (λ m. negsuc (m - 1)) (decimal_back (suc n) h) ∙ ap negsuc (omega arith)

-- ---- texts before and behind a byte

-- the text before the first blank, and the text behind it
abbrev pub cut_at_blank : List ℕ → List ℕ × List ℕ
cut_at_blank [] = ([], [])
cut_at_blank (byte ∷ text) = if byte == 32 then ([], text) else (byte ∷ (cut_at_blank text).0, (cut_at_blank text).1)

pub blank_cut : (xs ys : List ℕ) → From 33 xs → cut_at_blank (xs ++ 32 ∷ ys) ≡ (xs, ys)
blank_cut [] ys h = refl
blank_cut (x ∷ xs) ys h =
    let parts = and_parts (nat_le 33 x) (list_all (nat_le 33) xs) h in
    rw (ne_eqb x 32 (λ e. omega (arith, leb-true 33 x parts.0))) (ap (λ (p : List ℕ × List ℕ). (x ∷ p.0, p.1)) (blank_cut xs ys parts.1))

-- the text before the last dot, and the text behind it
abbrev pub dot_before : ℕ → List ℕ → Option (List ℕ × List ℕ) → Option (List ℕ × List ℕ)
dot_before byte text (Some cut) = Some (byte ∷ cut.0, cut.1)
dot_before byte text None = if byte == 46 then Some ([], text) else None

abbrev pub cut_at_dot : List ℕ → Option (List ℕ × List ℕ)
cut_at_dot [] = None
cut_at_dot (byte ∷ text) = dot_before byte text (cut_at_dot text)

no_dot : (text : List ℕ) → From 47 text → cut_at_dot text ≡ None
no_dot [] h = refl
no_dot (x ∷ xs) h =
    let parts = and_parts (nat_le 47 x) (list_all (nat_le 47) xs) h in
    ap (dot_before x xs) (no_dot xs parts.1) ∙ rw (ne_eqb x 46 (λ e. omega (arith, leb-true 47 x parts.0))) refl

pub dot_cut : (xs ys : List ℕ) → From 47 ys → cut_at_dot (xs ++ 46 ∷ ys) ≡ Some (xs, ys)
dot_cut [] ys h = ap (dot_before 46 ys) (no_dot ys h)
dot_cut (x ∷ xs) ys h = ap (dot_before x (xs ++ 46 ∷ ys)) (dot_cut xs ys h)
