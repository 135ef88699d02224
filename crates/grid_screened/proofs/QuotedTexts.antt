-- Texts inside and outside of quotes: one with colons in quotes alone does not end in a colon, a blank and such a text.
use Rattle.std.proofs.Common.{◌≡◌, ◌≢◌, refl, sym, ap, ◌∙◌, ℕ, zero, suc, ◌+◌, ◌/◌, ◌%◌, ◌<◌, ◌≤◌, ℤ, pos, negsuc, Bool, true, false, cond, not, ◌&&◌, ◌||◌, List, [], ◌∷◌, ◌++◌, append_assoc, arith, inl, inr}
use Rattle.std.specs.Prelude.{◌==◌, nat_lt, nat_le, decimal}
use Rattle.std.specs.Char.{digit_char}
use Rattle.std.specs.Fmt.{digits, digits_onto, digit_glyph, signed_decimal}
use Rattle.std.specs.List.{list_all}
use Rattle.std.proofs.lemmas.Bool.{and_parts, and_from, false≢true, ne_eqb, le-leb, lt-ltb, le-ltb, cases_lt}
use Rattle.std.proofs.Math.Nat.{mod-lt}
use Rattle.json.specs.Print.{escape_letter, escape_byte, escape, quoted}

-- ---- reading a text

-- outside of quotes, inside, and inside behind a backslash: whether the text ends outside, and has neither colons nor
-- backslashes there
abbrev mutual
  pub outside : List ℕ → Bool
  outside [] = true
  outside (c ∷ text) = cond (c == 34) (inside text) (not ((c == 58) || (c == 92)) && outside text)

  pub inside : List ℕ → Bool
  inside [] = false
  inside (c ∷ text) = cond (c == 34) (outside text) (cond (c == 92) (escaped text) (inside text))

  pub escaped : List ℕ → Bool
  escaped [] = false
  escaped (c ∷ text) = inside text

-- no text ends outside from both
not_both : (text : List ℕ) → (outside text ≡ true → inside text ≡ false) × (inside text ≡ true → outside text ≡ false)
not_both [] = ((λ h. refl), (λ h. absurd (false≢true h)))
not_both (c ∷ text) = by (c == 34) (c == 58) (c == 92) (not_both text)
  where
    by : (q d b : Bool) → ((outside text ≡ true → inside text ≡ false) × (inside text ≡ true → outside text ≡ false))
        → ((cond q (inside text) (not (d || b) && outside text) ≡ true → cond q (outside text) (cond b (escaped text) (inside text)) ≡ false)
        × (cond q (outside text) (cond b (escaped text) (inside text)) ≡ true → cond q (inside text) (not (d || b) && outside text) ≡ false))
    by true d b again = (again.1, again.0)
    by false true b again = ((λ h. absurd (false≢true h)), (λ h. refl))
    by false false true again = ((λ h. absurd (false≢true h)), (λ h. refl))
    by false false false again = again

-- a colon stands inside, and what is behind it goes on there
mutual
  outside_behind : (front rest : List ℕ) → outside (front ++ 58 ∷ rest) ≡ true → inside rest ≡ true
  outside_behind [] rest h = absurd (false≢true h)
  outside_behind (c ∷ front) rest h = by (c == 34) ((c == 58) || (c == 92)) h (inside_behind front rest) (outside_behind front rest)
    where
      by : (q d : Bool) → cond q (inside (front ++ 58 ∷ rest)) (not d && outside (front ++ 58 ∷ rest)) ≡ true
          → (inside (front ++ 58 ∷ rest) ≡ true → inside rest ≡ true) → (outside (front ++ 58 ∷ rest) ≡ true → inside rest ≡ true) → inside rest ≡ true
      by true d h i o = i h
      by false true h i o = absurd (false≢true h)
      by false false h i o = o h

  inside_behind : (front rest : List ℕ) → inside (front ++ 58 ∷ rest) ≡ true → inside rest ≡ true
  inside_behind [] rest h = h
  inside_behind (c ∷ front) rest h = by (c == 34) (c == 92) h (inside_behind front rest) (outside_behind front rest) (escaped_behind front rest)
    where
      by : (q b : Bool) → cond q (outside (front ++ 58 ∷ rest)) (cond b (escaped (front ++ 58 ∷ rest)) (inside (front ++ 58 ∷ rest))) ≡ true
          → (inside (front ++ 58 ∷ rest) ≡ true → inside rest ≡ true) → (outside (front ++ 58 ∷ rest) ≡ true → inside rest ≡ true) → (escaped (front ++ 58 ∷ rest) ≡ true → inside rest ≡ true) → inside rest ≡ true
      by true b h i o e = o h
      by false true h i o e = e h
      by false false h i o e = i h

  escaped_behind : (front rest : List ℕ) → escaped (front ++ 58 ∷ rest) ≡ true → inside rest ≡ true
  escaped_behind [] rest h = h
  escaped_behind (c ∷ front) rest h = inside_behind front rest h

no_text_behind : (front text : List ℕ) → outside (front ++ 58 ∷ 32 ∷ text) ≡ true → outside text ≡ true → ⊥
no_text_behind front text h k =
    let goes_on : inside text ≡ true = outside_behind front (32 ∷ text) h in
    false≢true (sym ((not_both text).0 k) ∙ goes_on)

-- so what stands before such a text, with a colon and a blank between, is told from it
pub before_text : (name also text other : List ℕ) → outside text ≡ true → outside other ≡ true → name ++ 58 ∷ 32 ∷ text ≡ also ++ 58 ∷ 32 ∷ other → (name ≡ also) × (text ≡ other)
before_text [] [] text other h k e = (refl, cc)
before_text [] (c ∷ []) text other h k e = let no : ◌≡◌ {A = ℕ} 32 58 = cc in absurd (omega (arith, no))
before_text [] (c ∷ d ∷ also) text other h k e =
    let same : text ≡ also ++ 58 ∷ 32 ∷ other = cc in
    absurd (no_text_behind also other (ap outside (sym same) ∙ h) k)
before_text (c ∷ []) [] text other h k e = let no : ◌≡◌ {A = ℕ} 58 32 = cc in absurd (omega (arith, no))
before_text (c ∷ d ∷ name) [] text other h k e =
    let same : name ++ 58 ∷ 32 ∷ text ≡ other = cc in
    absurd (no_text_behind name text (ap outside same ∙ k) h)
before_text (c ∷ name) (d ∷ also) text other h k e =
    let first : c ≡ d = cc in
    let rest : name ++ 58 ∷ 32 ∷ text ≡ also ++ 58 ∷ 32 ∷ other = cc in
    let again = before_text name also text other h k rest in
    (rw (first, again.0) refl, again.1)

-- ---- texts without quotes

abbrev pub is_plain : ℕ → Bool
is_plain c = not (c == 34) && not ((c == 58) || (c == 92))

pub outside_plain : (text rest : List ℕ) → list_all is_plain text ≡ true → outside (text ++ rest) ≡ outside rest
outside_plain [] rest h = refl
outside_plain (c ∷ text) rest h =
    let parts = and_parts (is_plain c) (list_all is_plain text) h in
    by (c == 34) ((c == 58) || (c == 92)) parts.0 (outside_plain text rest parts.1)
  where
    by : (q d : Bool) → not q && not d ≡ true → outside (text ++ rest) ≡ outside rest → cond q (inside (text ++ rest)) (not d && outside (text ++ rest)) ≡ outside rest
    by true d h again = absurd (false≢true h)
    by false true h again = absurd (false≢true h)
    by false false h again = again

-- ---- numbers

abbrev pub is_digit : ℕ → Bool
is_digit c = nat_le 48 c && nat_le c 57

-- a digit or a minus sign
abbrev pub is_numeral : ℕ → Bool
is_numeral c = (c == 45) || is_digit c

glyph_digit : (d : ℕ) → d < 10 → is_digit (digit_glyph false d) ≡ true
glyph_digit d lt = rw (lt-ltb d 10 lt) (and_from (nat_le 48 (48 + d)) (nat_le (48 + d) 57) (le-leb 48 (48 + d) (omega arith)) (le-leb (48 + d) 57 (omega (arith, lt))))

digits_onto_digits : (k n : ℕ) (rest : List ℕ) → list_all is_digit rest ≡ true → list_all is_digit (digits_onto k 10 false n rest) ≡ true
digits_onto_digits zero n rest h = h
digits_onto_digits (suc k) n rest h =
    let next = digit_glyph false (n % 10) ∷ rest in
    let all : list_all is_digit next ≡ true = and_from (is_digit (digit_glyph false (n % 10))) (list_all is_digit rest) (glyph_digit (n % 10) (mod-lt n (omega arith))) h in
    by (n / 10 == 0) next all (digits_onto_digits k (n / 10) next all)
  where
    by : (t : Bool) (next : List ℕ) → list_all is_digit next ≡ true → list_all is_digit (digits_onto k 10 false (n / 10) next) ≡ true → list_all is_digit (cond t next (digits_onto k 10 false (n / 10) next)) ≡ true
    by true next h again = h
    by false next h again = again

pub decimal_digits : (n : ℕ) → list_all is_digit (decimal n) ≡ true
unfolding digits
decimal_digits n = digits_onto_digits 64 n [] refl

all_weaker : (p q : ℕ → Bool) → ((c : ℕ) → p c ≡ true → q c ≡ true) → (text : List ℕ) → list_all p text ≡ true → list_all q text ≡ true
all_weaker p q h [] e = refl
all_weaker p q h (c ∷ text) e = let parts = and_parts (p c) (list_all p text) e in and_from (q c) (list_all q text) (h c parts.0) (all_weaker p q h text parts.1)

digit_numeral : (c : ℕ) → is_digit c ≡ true → is_numeral c ≡ true
digit_numeral c h = by (c == 45)
  where
    by : (t : Bool) → t || is_digit c ≡ true
    by true = refl
    by false = h

pub digit_numerals : (n : ℕ) → list_all is_numeral (decimal n) ≡ true
digit_numerals n = all_weaker is_digit is_numeral digit_numeral (decimal n) (decimal_digits n)

pub signed_numerals : (z : ℤ) → list_all is_numeral (signed_decimal z) ≡ true
signed_numerals (pos n) = digit_numerals n
signed_numerals (negsuc n) = digit_numerals (suc n)

numeral_plain : (c : ℕ) → is_numeral c ≡ true → is_plain c ≡ true
numeral_plain c h = rw (ne_eqb c 34 (λ e. other 34 e refl), ne_eqb c 58 (λ e. other 58 e refl), ne_eqb c 92 (λ e. other 92 e refl)) refl
  where
    other : (k : ℕ) → c ≡ k → is_numeral k ≡ false → ⊥
    other k e f = false≢true (sym f ∙ ap is_numeral (sym e) ∙ h)

pub plain_numerals : (text : List ℕ) → list_all is_numeral text ≡ true → list_all is_plain text ≡ true
plain_numerals text h = all_weaker is_numeral is_plain numeral_plain text h

-- a text that does not go on with a numeral
abbrev pub stops : List ℕ → Bool
stops [] = true
stops (c ∷ text) = not (is_numeral c)

-- numerals are told from what is behind them
pub numerals_told : (xs ys rest other : List ℕ) → list_all is_numeral xs ≡ true → list_all is_numeral ys ≡ true → stops rest ≡ true → stops other ≡ true → xs ++ rest ≡ ys ++ other → (xs ≡ ys) × (rest ≡ other)
numerals_told [] [] rest other h k s t e = (refl, e)
numerals_told [] (y ∷ ys) rest other h k s t e =
    let parts = and_parts (is_numeral y) (list_all is_numeral ys) k in
    absurd (false≢true (ap not (sym parts.0) ∙ sym (ap stops e) ∙ s))
numerals_told (x ∷ xs) [] rest other h k s t e =
    let parts = and_parts (is_numeral x) (list_all is_numeral xs) h in
    absurd (false≢true (ap not (sym parts.0) ∙ ap stops e ∙ t))
numerals_told (x ∷ xs) (y ∷ ys) rest other h k s t e =
    let first : x ≡ y = cc in
    let behind : xs ++ rest ≡ ys ++ other = cc in
    let again = numerals_told xs ys rest other (and_parts (is_numeral x) (list_all is_numeral xs) h).1 (and_parts (is_numeral y) (list_all is_numeral ys) k).1 s t behind in
    (rw (first, again.0) refl, again.1)

-- ---- texts in quotes

inside_other : (c : ℕ) (text : List ℕ) → c ≢ 34 → c ≢ 92 → inside (c ∷ text) ≡ inside text
inside_other c text q b = rw (ne_eqb c 34 q, ne_eqb c 92 b) refl

glyph_other : (d : ℕ) → (digit_char d ≢ 34) × (digit_char d ≢ 92)
glyph_other d = elim (cases_lt d 10) [
  | inl lt ↦ rw (lt-ltb d 10 lt) ((λ e. omega (arith, e)), (λ e. omega (arith, e, lt)))
  | inr le ↦ (let ge = ge_ltb d le in rw ge ((λ e. omega (arith, e)), (λ e. omega (arith, e, le))))
]
  where
    ge_ltb : (d : ℕ) → 10 ≤ d → nat_lt d 10 ≡ false
    ge_ltb d le = le-ltb d 10 le

inside_byte : (c : ℕ) (rest : List ℕ) → inside (escape_byte c ++ rest) ≡ inside rest
unfolding escape_byte
inside_byte c rest = by (nat_lt 0 (escape_letter c)) (nat_lt c 32) refl
  where
    by : (s t : Bool) → nat_lt 0 (escape_letter c) ≡ s
        → inside (cond s (92 ∷ escape_letter c ∷ []) (cond t (92 ∷ 117 ∷ 48 ∷ 48 ∷ digit_char (c / 16) ∷ digit_char (c % 16) ∷ []) (c ∷ [])) ++ rest) ≡ inside rest
    by true t e = refl
    by false true e =
        let high = glyph_other (c / 16) in
        let low = glyph_other (c % 16) in
        inside_other (digit_char (c / 16)) (digit_char (c % 16) ∷ rest) high.0 high.1 ∙ inside_other (digit_char (c % 16)) rest low.0 low.1
    by false false e = inside_other c rest (λ f. false≢true (sym e ∙ ap (λ z. nat_lt 0 (escape_letter z)) f)) (λ f. false≢true (sym e ∙ ap (λ z. nat_lt 0 (escape_letter z)) f))

inside_escape : (s rest : List ℕ) → inside (escape s ++ rest) ≡ inside rest
inside_escape [] rest = refl
inside_escape (c ∷ s) rest = ap inside (append_assoc (escape_byte c) (escape s) rest) ∙ inside_byte c (escape s ++ rest) ∙ inside_escape s rest

pub outside_quoted : (s rest : List ℕ) → outside (quoted s ++ rest) ≡ outside rest
outside_quoted s rest = ap inside (append_assoc (escape s) (34 ∷ []) rest) ∙ inside_escape s (34 ∷ rest)
