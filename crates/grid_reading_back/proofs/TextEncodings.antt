-- The texts that stand in UTF-8 bytes are UTF-8.
use Rattle.std.proofs.Common.{◌≡◌, ◌<◌, ◌≤◌, ◌+◌, ◌-◌, ◌*◌, ◌&&◌, ◌||◌, ◌==◌, ℕ, suc, Bool, true, false, cond, List, [], ◌∷◌, ◌++◌, length, take, drop, get_or, Option, Some, None, IsUtf8, inl, inr, option_and_then, refl, sym, ap, ◌∙◌, subst, arith, add-one, append_assoc, length-append}
use Rattle.std.specs.Prelude.{nat_lt, nat_le, ⊤}
use Rattle.std.specs.Char.{digit_value, is_digit, encode_utf8}
use Rattle.std.proofs.lemmas.Bool.{and_parts, cases_lt, eqb-true, ltb-true, leb-true, lt-ltb, le-ltb, le-leb, ne_eqb, true≢false}
use Rattle.std.proofs.lemmas.Str.{IsUtf8-append, IsUtf8-nil, IsUtf8-encode, IsUtf8-take, IsUtf8-drop, IsCharBoundary-before_ascii, IsCharBoundary-after_ascii}
use lib.Utf8.{scalar, low_scalar}
use Rattle.json.specs.Token.{Token, begin_object, end_object, begin_array, end_array, key, string, number, boolean, null, bad}
use Rattle.json.specs.Text.{code_unit, short_escape, is_high_surrogate, is_low_surrogate, surrogate_pair, plain, after_backslash, after_u, after_high, prepend, content}
use Rattle.json.specs.Word.{head, after_number, number_before, ends_word, is_operator, is_space, word}
use Rattle.json.specs.Lex.{Lexeme, token, comma, colon, Class, quote, backslash, operator, space, other, class, operator_lexeme, string_token, Mode, between, in_word, in_string, in_escape, lex_byte, lex}
use Rattle.json.specs.Lex.{Place, fresh, after_value, after_comma, after_key, begins_colon, may_begin, may_close, if_allowed, place_token, punctuate, tokens}
use Rattle.json.specs.Json as json
use Rattle.json.specs.Tree as tree
use Rattle.json.proofs.Printed.Utf8.{IsUtf8-are_ascii}
use Rattle.json.proofs.Unique.Spelling.{value-json_tokens_back}
use Rattle.serde_json.specs.Read.{max_depth}
use Rattle.grid_reading_back.proofs.Options.{mapped, chained}
use Rattle.grid_reading_back.proofs.ParseTrees.{TreeKeeps, ItemsKeep, MembersKeep}

-- ---- an ASCII byte stands alone

take_front : (p ys : List ℕ) → take (length p) (p ++ ys) ≡ p
take_front [] ys = refl
take_front (x ∷ p) ys = ap (λ l. x ∷ l) (take_front p ys)

drop_past : (p : List ℕ) (x : ℕ) (xs : List ℕ) → drop (suc (length p)) (p ++ x ∷ xs) ≡ xs
drop_past [] x xs = refl
drop_past (y ∷ p) x xs = drop_past p x xs

got_behind : (p : List ℕ) (x : ℕ) (xs : List ℕ) → get_or (p ++ x ∷ xs) (length p) 0 ≡ x
got_behind [] x xs = refl
got_behind (y ∷ p) x xs = got_behind p x xs

inside : (p : List ℕ) (x : ℕ) (xs : List ℕ) → length p < length (p ++ x ∷ xs)
inside p x xs = omega (arith, length-append p (x ∷ xs))

front_utf8 : (p : List ℕ) (x : ℕ) (xs : List ℕ) → x < 128 → IsUtf8 (p ++ x ∷ xs) → IsUtf8 p
front_utf8 p x xs small u =
    let at : get_or (p ++ x ∷ xs) (length p) 0 < 128 = rw (got_behind p x xs) small in
    subst IsUtf8 (take_front p (x ∷ xs)) (IsUtf8-take (p ++ x ∷ xs) (length p) u (IsCharBoundary-before_ascii (p ++ x ∷ xs) (length p) (inside p x xs) at))

rest_utf8 : (p : List ℕ) (x : ℕ) (xs : List ℕ) → x < 128 → IsUtf8 (p ++ x ∷ xs) → IsUtf8 xs
rest_utf8 p x xs small u =
    let at : get_or (p ++ x ∷ xs) (length p) 0 < 128 = rw (got_behind p x xs) small in
    let cut : drop (length p + 1) (p ++ x ∷ xs) ≡ xs = rw add-one (drop_past p x xs) in
    subst IsUtf8 cut (IsUtf8-drop (p ++ x ∷ xs) (length p + 1) u (IsCharBoundary-after_ascii (p ++ x ∷ xs) (length p) u (inside p x xs) at))

one_utf8 : (x : ℕ) → x < 128 → IsUtf8 (x ∷ [])
one_utf8 x small = IsUtf8-are_ascii (x ∷ []) (rw (lt-ltb x 128 small) refl)

-- ---- escapes

digit_ascii : (c : ℕ) → is_digit c 16 ≡ true → c < 128
digit_ascii c e = elim (cases_lt c 128) [
  | inl small ↦ small
  | inr big ↦
      let far : is_digit c 16 ≡ false = rw (le-ltb c 48 (omega (arith, big)), le-ltb c 58 (omega (arith, big)), le-ltb c 65 (omega (arith, big)), le-ltb c 91 (omega (arith, big)), le-ltb c 97 (omega (arith, big)), le-ltb c 123 (omega (arith, big))) refl in
      absurd (true≢false (sym e ∙ far))
]

record Unit16 (a b c d u : ℕ) : Type 0 where
  first : a < 128
  second : b < 128
  third : c < 128
  fourth : d < 128
  small : u < 65536

unit_of : (a b c d u : ℕ) → code_unit a b c d ≡ Some u → Unit16 a b c d u
unfolding code_unit
unit_of a b c d u is = by (is_digit a 16 && is_digit b 16 && is_digit c 16 && is_digit d 16) refl is
  where
    by : (t : Bool) → (is_digit a 16 && is_digit b 16 && is_digit c 16 && is_digit d 16) ≡ t → cond t (Some (digit_value a * 4096 + digit_value b * 256 + digit_value c * 16 + digit_value d)) None ≡ Some u → Unit16 a b c d u
    by true e h =
        let p = and_parts (is_digit a 16 && is_digit b 16 && is_digit c 16) (is_digit d 16) e in
        let q = and_parts (is_digit a 16 && is_digit b 16) (is_digit c 16) p.0 in
        let r = and_parts (is_digit a 16) (is_digit b 16) q.0 in
        let same : digit_value a * 4096 + digit_value b * 256 + digit_value c * 16 + digit_value d ≡ u = cc in
        let least : u < 65536 = omega (arith, same, ltb-true (digit_value a) 16 r.0, ltb-true (digit_value b) 16 r.1, ltb-true (digit_value c) 16 q.1, ltb-true (digit_value d) 16 p.1) in
        record { first = digit_ascii a r.0; second = digit_ascii b r.1; third = digit_ascii c q.1; fourth = digit_ascii d p.1; small = least }
    by false e h = cc

high_scalar : (c : ℕ) → 57344 ≤ c → c < 1114112 → scalar c ≡ true
high_scalar c low high = rw (le-ltb c 55296 (omega (arith, low)), le-leb 57344 c low, lt-ltb c 1114112 high) refl

unit_scalar : (u : ℕ) → u < 65536 → is_high_surrogate u ≡ false → is_low_surrogate u ≡ false → scalar u ≡ true
unit_scalar u small high low = elim (cases_lt u 55296) [
  | inl below ↦ low_scalar u below
  | inr a ↦ elim (cases_lt u 56320) [
    | inl b ↦ let yes : is_high_surrogate u ≡ true = rw (le-leb 55296 u a, lt-ltb u 56320 b) refl in absurd (true≢false (sym yes ∙ high))
    | inr b ↦ elim (cases_lt u 57344) [
      | inl c ↦ let yes : is_low_surrogate u ≡ true = rw (le-leb 56320 u b, lt-ltb u 57344 c) refl in absurd (true≢false (sym yes ∙ low))
      | inr c ↦ high_scalar u c (omega (arith, small))
    ]
  ]
]

pair_scalar : (h l : ℕ) → is_high_surrogate h ≡ true → is_low_surrogate l ≡ true → scalar (surrogate_pair h l) ≡ true
pair_scalar h l high low =
    let p = and_parts (nat_le 55296 h) (nat_lt h 56320) high in
    let q = and_parts (nat_le 56320 l) (nat_lt l 57344) low in
    let a : 55296 ≤ h = leb-true 55296 h p.0 in
    let b : h < 56320 = ltb-true h 56320 p.1 in
    let c : 56320 ≤ l = leb-true 56320 l q.0 in
    let d : l < 57344 = ltb-true l 57344 q.1 in
    high_scalar (surrogate_pair h l) (omega arith) (omega (arith, a, b, c, d))

small_if : (b : Bool) (v e : ℕ) (rest : Option ℕ) → v < 128 → (rest ≡ Some e → e < 128) → cond b (Some v) rest ≡ Some e → e < 128
small_if true v e rest small later is = let same : v ≡ e = cc in rw (← same) small
small_if false v e rest small later is = later is

escape_small : (x e : ℕ) → short_escape x ≡ Some e → (x < 128) × (e < 128)
unfolding short_escape
escape_small x e is = elim (cases_lt x 128) [
  | inl small ↦ (
    small,
    small_if ((x == 34) || (x == 92) || (x == 47)) x e _ small
        (small_if (x == 98) 8 e _ (omega arith) (small_if (x == 102) 12 e _ (omega arith) (small_if (x == 110) 10 e _ (omega arith) (small_if (x == 114) 13 e _ (omega arith) (small_if (x == 116) 9 e None (omega arith) (λ h. cc)))))) is,
  )
  | inr big ↦
      let none : short_escape x ≡ None = rw (
        ne_eqb x 34 (λ s. omega (arith, big, s)),
        ne_eqb x 92 (λ s. omega (arith, big, s)),
        ne_eqb x 47 (λ s. omega (arith, big, s)),
        ne_eqb x 98 (λ s. omega (arith, big, s)),
        ne_eqb x 102 (λ s. omega (arith, big, s)),
        ne_eqb x 110 (λ s. omega (arith, big, s)),
        ne_eqb x 114 (λ s. omega (arith, big, s)),
        ne_eqb x 116 (λ s. omega (arith, big, s)),
      ) refl in
      absurd (cc (none, is))
]

-- ---- the content of a string

-- behind what stands before it
abbrev Continues : List ℕ → Type 0
Continues xs = (p s : List ℕ) → IsUtf8 (p ++ xs) → content plain xs ≡ Some s → IsUtf8 (p ++ s)

put_before : (p front xs s : List ℕ) → Continues xs → IsUtf8 ((p ++ front) ++ xs) → prepend front (content plain xs) ≡ Some s → IsUtf8 (p ++ s)
put_before p front xs s again u is =
    let a = mapped (λ t. front ++ t) (content plain xs) s is in
    subst IsUtf8 (append_assoc p front a.0 ∙ ap (λ l. p ++ l) a.2) (again (p ++ front) a.0 u a.1)

plain_step : (x : ℕ) (xs p s : List ℕ) → Continues xs → ((t : List ℕ) → IsUtf8 xs → content after_backslash xs ≡ Some t → IsUtf8 t) → IsUtf8 (p ++ x ∷ xs) → content plain (x ∷ xs) ≡ Some s → IsUtf8 (p ++ s)
unfolding content
plain_step x xs p s again escape u is = by_quote (x == 34) refl is
  where
    by_control : (b : Bool) → cond b None (prepend (x ∷ []) (content plain xs)) ≡ Some s → IsUtf8 (p ++ s)
    by_control true h = cc
    by_control false h = put_before p (x ∷ []) xs s again (subst IsUtf8 (sym (append_assoc p (x ∷ []) xs)) u) h

    by_backslash : (b : Bool) → (x == 92) ≡ b → cond b (content after_backslash xs) (cond (nat_lt x 32) None (prepend (x ∷ []) (content plain xs))) ≡ Some s → IsUtf8 (p ++ s)
    by_backslash true e h =
        let small : x < 128 = omega (arith, eqb-true x 92 e) in
        IsUtf8-append p s (front_utf8 p x xs small u) (escape s (rest_utf8 p x xs small u) h)
    by_backslash false e h = by_control (nat_lt x 32) h

    by_quote : (b : Bool) → (x == 34) ≡ b → cond b (Some []) (cond (x == 92) (content after_backslash xs) (cond (nat_lt x 32) None (prepend (x ∷ []) (content plain xs)))) ≡ Some s → IsUtf8 (p ++ s)
    by_quote true e h =
        let small : x < 128 = omega (arith, eqb-true x 34 e) in
        let none : [] ≡ s = cc in
        IsUtf8-append p s (front_utf8 p x xs small u) (subst IsUtf8 none IsUtf8-nil)
    by_quote false e h = by_backslash (x == 92) refl h

escape_step : (x : ℕ) (xs s : List ℕ) → Continues xs → ((t : List ℕ) → IsUtf8 xs → content after_u xs ≡ Some t → IsUtf8 t) → IsUtf8 (x ∷ xs) → content after_backslash (x ∷ xs) ≡ Some s → IsUtf8 s
unfolding content
escape_step x xs s again unit u is = by (x == 117) refl is
  where
    by : (b : Bool) → (x == 117) ≡ b → cond b (content after_u xs) (option_and_then (λ c. prepend (c ∷ []) (content plain xs)) (short_escape x)) ≡ Some s → IsUtf8 s
    by true e h =
        let small : x < 128 = omega (arith, eqb-true x 117 e) in
        unit s (rest_utf8 [] x xs small u) h
    by false e h =
        let a = chained (λ c. prepend (c ∷ []) (content plain xs)) (short_escape x) s h in
        let small = escape_small x a.0 a.1 in
        put_before [] (a.0 ∷ []) xs s again (IsUtf8-append (a.0 ∷ []) xs (one_utf8 a.0 small.1) (rest_utf8 [] x xs small.0 u)) a.2

-- the text behind four digits
behind_unit : (a b c d u : ℕ) (xs : List ℕ) → Unit16 a b c d u → IsUtf8 (a ∷ b ∷ c ∷ d ∷ xs) → IsUtf8 xs
behind_unit a b c d u xs unit text =
    rest_utf8 [] d xs unit.fourth (rest_utf8 [] c (d ∷ xs) unit.third (rest_utf8 [] b (c ∷ d ∷ xs) unit.second (rest_utf8 [] a (b ∷ c ∷ d ∷ xs) unit.first text)))

unit_step : (a b c d : ℕ) (xs s : List ℕ) → Continues xs → ((h : ℕ) (t : List ℕ) → is_high_surrogate h ≡ true → IsUtf8 xs → content (after_high h) xs ≡ Some t → IsUtf8 t) → IsUtf8 (a ∷ b ∷ c ∷ d ∷ xs)
    → content after_u (a ∷ b ∷ c ∷ d ∷ xs) ≡ Some s → IsUtf8 s
unfolding content
unit_step a b c d xs s again pair text is =
    let v = chained (λ u. cond (is_high_surrogate u) (content (after_high u) xs) (cond (is_low_surrogate u) None (prepend (encode_utf8 u) (content plain xs)))) (code_unit a b c d) s is in
    let unit = unit_of a b c d v.0 v.1 in
    by_high v.0 unit.small (behind_unit a b c d v.0 xs unit text) (is_high_surrogate v.0) refl v.2
  where
    by_low : (u : ℕ) → u < 65536 → IsUtf8 xs → is_high_surrogate u ≡ false → (t : Bool) → is_low_surrogate u ≡ t → cond t None (prepend (encode_utf8 u) (content plain xs)) ≡ Some s → IsUtf8 s
    by_low u small rest high true e h = cc
    by_low u small rest high false e h = put_before [] (encode_utf8 u) xs s again (IsUtf8-append (encode_utf8 u) xs (IsUtf8-encode u (unit_scalar u small high e)) rest) h

    by_high : (u : ℕ) → u < 65536 → IsUtf8 xs → (t : Bool) → is_high_surrogate u ≡ t → cond t (content (after_high u) xs) (cond (is_low_surrogate u) None (prepend (encode_utf8 u) (content plain xs))) ≡ Some s → IsUtf8 s
    by_high u small rest true e h = pair u s e rest h
    by_high u small rest false e h = by_low u small rest e (is_low_surrogate u) refl h

pair_step : (h x y a b c d : ℕ) (xs s : List ℕ) → Continues xs → is_high_surrogate h ≡ true → IsUtf8 (x ∷ y ∷ a ∷ b ∷ c ∷ d ∷ xs) → content (after_high h) (x ∷ y ∷ a ∷ b ∷ c ∷ d ∷ xs) ≡ Some s → IsUtf8 s
unfolding content
pair_step h x y a b c d xs s again high text is = by ((x == 92) && (y == 117)) refl is
  where
    by_low : (l : ℕ) → IsUtf8 xs → (t : Bool) → is_low_surrogate l ≡ t → cond t (prepend (encode_utf8 (surrogate_pair h l)) (content plain xs)) None ≡ Some s → IsUtf8 s
    by_low l rest true e k = put_before [] (encode_utf8 (surrogate_pair h l)) xs s again (IsUtf8-append (encode_utf8 (surrogate_pair h l)) xs (IsUtf8-encode (surrogate_pair h l) (pair_scalar h l high e)) rest) k
    by_low l rest false e k = cc

    by : (t : Bool) → ((x == 92) && (y == 117)) ≡ t
        → cond t (option_and_then (λ l. cond (is_low_surrogate l) (prepend (encode_utf8 (surrogate_pair h l)) (content plain xs)) None) (code_unit a b c d)) None ≡ Some s → IsUtf8 s
    by true e k =
        let p = and_parts (x == 92) (y == 117) e in
        let v = chained (λ l. cond (is_low_surrogate l) (prepend (encode_utf8 (surrogate_pair h l)) (content plain xs)) None) (code_unit a b c d) s k in
        let small1 : x < 128 = omega (arith, eqb-true x 92 p.0) in
        let small2 : y < 128 = omega (arith, eqb-true y 117 p.1) in
        let digits = rest_utf8 [] y (a ∷ b ∷ c ∷ d ∷ xs) small2 (rest_utf8 [] x (y ∷ a ∷ b ∷ c ∷ d ∷ xs) small1 text) in
        by_low v.0 (behind_unit a b c d v.0 xs (unit_of a b c d v.0 v.1) digits) (is_low_surrogate v.0) refl v.2
    by false e k = cc

mutual
  unfolding content

  plain_utf8 : (xs p s : List ℕ) → IsUtf8 (p ++ xs) → content plain xs ≡ Some s → IsUtf8 (p ++ s)
  plain_utf8 [] p s u is = cc
  plain_utf8 (x ∷ xs) p s u is = plain_step x xs p s (plain_utf8 xs) (escape_utf8 xs) u is

  escape_utf8 : (xs s : List ℕ) → IsUtf8 xs → content after_backslash xs ≡ Some s → IsUtf8 s
  escape_utf8 [] s u is = cc
  escape_utf8 (x ∷ xs) s u is = escape_step x xs s (plain_utf8 xs) (unit_utf8 xs) u is

  unit_utf8 : (xs s : List ℕ) → IsUtf8 xs → content after_u xs ≡ Some s → IsUtf8 s
  unit_utf8 [] s u is = cc
  unit_utf8 (a ∷ []) s u is = cc
  unit_utf8 (a ∷ b ∷ []) s u is = cc
  unit_utf8 (a ∷ b ∷ c ∷ []) s u is = cc
  unit_utf8 (a ∷ b ∷ c ∷ d ∷ xs) s u is = unit_step a b c d xs s (plain_utf8 xs) (pair_utf8 xs) u is

  pair_utf8 : (xs : List ℕ) (h : ℕ) (s : List ℕ) → is_high_surrogate h ≡ true → IsUtf8 xs → content (after_high h) xs ≡ Some s → IsUtf8 s
  pair_utf8 [] h s high u is = cc
  pair_utf8 (x ∷ []) h s high u is = cc
  pair_utf8 (x ∷ y ∷ []) h s high u is = cc
  pair_utf8 (x ∷ y ∷ a ∷ []) h s high u is = cc
  pair_utf8 (x ∷ y ∷ a ∷ b ∷ []) h s high u is = cc
  pair_utf8 (x ∷ y ∷ a ∷ b ∷ c ∷ []) h s high u is = cc
  pair_utf8 (x ∷ y ∷ a ∷ b ∷ c ∷ d ∷ xs) h s high u is = pair_step h x y a b c d xs s (plain_utf8 xs) high u is

pub content_utf8 : (xs s : List ℕ) → IsUtf8 xs → content plain xs ≡ Some s → IsUtf8 s
content_utf8 xs s u is = plain_utf8 xs [] s u is

-- ---- the texts among the tokens

abbrev IsText : Token → Type 0
IsText begin_object = ⊤
IsText end_object = ⊤
IsText begin_array = ⊤
IsText end_array = ⊤
IsText (key s) = ⊤
IsText (string s) = IsUtf8 s
IsText (number s) = ⊤
IsText (boolean b) = ⊤
IsText null = ⊤
IsText bad = ⊤

abbrev AreTexts : List Token → Type 0
AreTexts [] = ⊤
AreTexts (t ∷ ts) = IsText t × AreTexts ts

abbrev LexemeIsText : Lexeme → Type 0
LexemeIsText (token t) = IsText t
LexemeIsText comma = ⊤
LexemeIsText colon = ⊤

abbrev LexemesAreTexts : List Lexeme → Type 0
LexemesAreTexts [] = ⊤
LexemesAreTexts (l ∷ ls) = LexemeIsText l × LexemesAreTexts ls

one_of : (b : Bool) (x y : Token) → IsText x → IsText y → IsText (cond b x y)
one_of true x y p q = p
one_of false x y p q = q

number_text : (t : List ℕ) (o : Option (List ℕ)) → IsText (number_before t o)
number_text t None = tt
number_text t (Some r) = one_of (ends_word r) (number (take (length t - length r) t)) bad tt tt

word_text : (t : List ℕ) → IsText (word t)
unfolding word
word_text t =
    one_of (head t == 116) _ _ (one_of _ (boolean true) bad tt tt) (one_of (head t == 102) _ _ (one_of _ (boolean false) bad tt tt) (one_of (head t == 110) _ _ (one_of _ null bad tt tt) (number_text t (after_number t))))

mark : (b : Bool) (x y : Lexeme) → LexemeIsText x → LexemeIsText y → LexemeIsText (cond b x y)
mark true x y p q = p
mark false x y p q = q

marks : (x : ℕ) → LexemeIsText (operator_lexeme x)
marks x =
    mark (x == 123) (token begin_object) _ tt (mark (x == 125) (token end_object) _ tt (mark (x == 91) (token begin_array) _ tt (mark (x == 93) (token end_array) _ tt (mark (x == 44) comma colon tt tt))))

quoted_text : (xs : List ℕ) → IsUtf8 xs → (o : Option (List ℕ)) → content plain xs ≡ o → IsText (string_token o)
quoted_text xs u None is = tt
quoted_text xs u (Some s) is = content_utf8 xs s u is

byte : (m : Mode) (c : Class) (x : ℕ) (xs : List ℕ) (k : Mode → List Lexeme) → (c ≡ quote → IsUtf8 xs) → ((n : Mode) → LexemesAreTexts (k n)) → LexemesAreTexts (lex_byte m c x xs k)
byte between quote x xs k u h = (quoted_text xs (u refl) (content plain xs) refl, h in_string)
byte between backslash x xs k u h = (tt, h in_word)
byte between operator x xs k u h = (marks x, h between)
byte between space x xs k u h = h between
byte between other x xs k u h = (word_text (x ∷ xs), h in_word)
byte in_word quote x xs k u h = h in_word
byte in_word backslash x xs k u h = h in_word
byte in_word operator x xs k u h = (marks x, h between)
byte in_word space x xs k u h = h between
byte in_word other x xs k u h = h in_word
byte in_string quote x xs k u h = h between
byte in_string backslash x xs k u h = h in_escape
byte in_string operator x xs k u h = h in_string
byte in_string space x xs k u h = h in_string
byte in_string other x xs k u h = h in_string
byte in_escape c x xs k u h = h in_string

other_class : (operator_byte space_byte : Bool) → cond operator_byte operator (cond space_byte space other) ≡ quote → ⊥
other_class true s e = cc
other_class false true e = cc
other_class false false e = cc

quote_ascii : (x : ℕ) → class x ≡ quote → x < 128
quote_ascii x is = by_quote (x == 34) refl is
  where
    by_backslash : (b : Bool) → cond b backslash (cond (is_operator x) operator (cond (is_space x) space other)) ≡ quote → x < 128
    by_backslash true e = cc
    by_backslash false e = absurd (other_class (is_operator x) (is_space x) e)

    by_quote : (b : Bool) → (x == 34) ≡ b → cond b quote (cond (x == 92) backslash (cond (is_operator x) operator (cond (is_space x) space other))) ≡ quote → x < 128
    by_quote true e h = omega (arith, eqb-true x 34 e)
    by_quote false e h = by_backslash (x == 92) h

lexemes_are_texts : (xs front : List ℕ) (m : Mode) → IsUtf8 (front ++ xs) → LexemesAreTexts (lex m xs)
unfolding lex
lexemes_are_texts [] front m u = tt
lexemes_are_texts (x ∷ xs) front m u =
    byte m (class x) x xs (λ n. lex n xs) (λ e. rest_utf8 front x xs (quote_ascii x e) u) (λ n. lexemes_are_texts xs (front ++ x ∷ []) n (subst IsUtf8 (sym (append_assoc front (x ∷ []) xs)) u))

allowed : (b : Bool) (t : Token) (k : Place → List Token) (next : Place) → IsText t → AreTexts (k next) → AreTexts (if_allowed b t k next)
allowed true t k next p q = (p, q)
allowed false t k next p q = (tt, tt)

placed : (p : Place) (t : Token) (b : Bool) (k : Place → List Token) → IsText t → ((n : Place) → AreTexts (k n)) → AreTexts (place_token p t b k)
placed p begin_object b k q h = allowed (may_begin p) begin_object k fresh q (h fresh)
placed p end_object b k q h = allowed (may_close p) end_object k after_value q (h after_value)
placed p begin_array b k q h = allowed (may_begin p) begin_array k fresh q (h fresh)
placed p end_array b k q h = allowed (may_close p) end_array k after_value q (h after_value)
placed p (key s) b k q h = (tt, tt)
placed p (string s) true k q h = allowed (may_begin p) (key s) k after_key tt (h after_key)
placed p (string s) false k q h = allowed (may_begin p) (string s) k after_value q (h after_value)
placed p (number s) b k q h = allowed (may_begin p) (number s) k after_value q (h after_value)
placed p (boolean v) b k q h = allowed (may_begin p) (boolean v) k after_value q (h after_value)
placed p null b k q h = allowed (may_begin p) null k after_value q (h after_value)
placed p bad b k q h = (tt, tt)

punctuated : (ls : List Lexeme) → LexemesAreTexts ls → (p : Place) → AreTexts (punctuate p ls)
unfolding punctuate
punctuated [] h fresh = tt
punctuated [] h after_value = tt
punctuated [] h after_comma = (tt, tt)
punctuated [] h after_key = (tt, tt)
punctuated (token t ∷ ls) h p = placed p t (begins_colon ls) (λ n. punctuate n ls) h.0 (punctuated ls h.1)
punctuated (comma ∷ ls) h fresh = (tt, tt)
punctuated (comma ∷ ls) h after_value = punctuated ls h.1 after_comma
punctuated (comma ∷ ls) h after_comma = (tt, tt)
punctuated (comma ∷ ls) h after_key = (tt, tt)
punctuated (colon ∷ ls) h fresh = (tt, tt)
punctuated (colon ∷ ls) h after_value = (tt, tt)
punctuated (colon ∷ ls) h after_comma = (tt, tt)
punctuated (colon ∷ ls) h after_key = punctuated ls h.1 fresh

tokens_are_texts : (bytes : List ℕ) → IsUtf8 bytes → AreTexts (tokens bytes)
tokens_are_texts bytes u = punctuated (lex between bytes) (lexemes_are_texts bytes [] between u) fresh

-- ---- the texts of a tree

mutual
  tree_texts : (j : json.Json) (rest : List Token) → AreTexts (tree.json_tokens j ++ rest) → TreeKeeps IsUtf8 j × AreTexts rest
  tree_texts json.null rest h = (tt, h.1)
  tree_texts (json.boolean b) rest h = (tt, h.1)
  tree_texts (json.number s) rest h = (tt, h.1)
  tree_texts (json.string s) rest h = h
  tree_texts (json.array js) rest h = items_texts js rest h.1
  tree_texts (json.object ms) rest h = members_texts ms rest h.1

  items_texts : (js : json.Items) (rest : List Token) → AreTexts (tree.items_tokens js ++ rest) → ItemsKeep IsUtf8 js × AreTexts rest
  items_texts json.no_items rest h = (tt, h.1)
  items_texts (json.item j js) rest h =
      let here = tree_texts j (tree.items_tokens js ++ rest) (subst AreTexts (append_assoc (tree.json_tokens j) (tree.items_tokens js) rest) h) in
      let later = items_texts js rest here.1 in
      ((here.0, later.0), later.1)

  members_texts : (ms : json.Members) (rest : List Token) → AreTexts (tree.members_tokens ms ++ rest) → MembersKeep IsUtf8 ms × AreTexts rest
  members_texts json.no_members rest h = (tt, h.1)
  members_texts (json.member k j ms) rest h =
      let here = tree_texts j (tree.members_tokens ms ++ rest) (subst AreTexts (append_assoc (tree.json_tokens j) (tree.members_tokens ms) rest) h.1) in
      let later = members_texts ms rest here.1 in
      ((here.0, later.0), later.1)

last_is : (j k : json.Json) (ts : List Token) → json.if_last j ts ≡ Some k → j ≡ k
last_is j k [] is = cc
last_is j k (t ∷ ts) is = cc

pub spelled_texts : (bytes : List ℕ) (j : json.Json) → IsUtf8 bytes → option_and_then (λ p. json.if_last p.0 p.1) (json.value max_depth (tokens bytes)) ≡ Some j → TreeKeeps IsUtf8 j
spelled_texts bytes j u is =
    let a = chained (λ p. json.if_last p.0 p.1) (json.value max_depth (tokens bytes)) j is in
    let spelled = value-json_tokens_back max_depth (tokens bytes) a.0.1 a.0.0 a.1 in
    subst (TreeKeeps IsUtf8) (last_is a.0.0 j a.0.1 a.2) (tree_texts a.0.0 a.0.1 (subst AreTexts spelled (tokens_are_texts bytes u))).0
