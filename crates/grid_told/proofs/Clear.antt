-- The text of a tree has no byte below 32.
use Rattle.std.proofs.Common.{◌≡◌, ℕ, zero, suc, ℤ, ◌<◌, ◌≤◌, Bool, true, false, ◌&&◌, List, [], ◌∷◌, ◌++◌, refl, sym, subst, inl, inr, arith}
use Rattle.std.specs.Prelude.{decimal, nat_le}
use Rattle.std.specs.Fmt.{signed_decimal}
use Rattle.std.specs.List.{list_all}
use Rattle.std.proofs.lemmas.Bool.{and_parts, cases_lt, cases_eq}
use Rattle.grid_told.proofs.Digits.{From, from_more, from_cons, lower, decimal_from, signed_from}
use Rattle.json.specs.Print.{escape_byte, escape, quoted}
use Rattle.json.proofs.Printed.Strings.{escape_byte_plain}
use Rattle.serde_json.specs.Data.{Num, unsigned, negative, float, Data, null, boolean, number, string, array, object, Items, no_items, item, Members, no_members, member}
use Rattle.serde_json.specs.Written.{number_text, comma_if, compact_text, items_text, members_text}

abbrev pub Clear : List ℕ → Type 0
Clear bytes = From 32 bytes

clear_more : (xs ys : List ℕ) → Clear xs → Clear ys → Clear (xs ++ ys)
clear_more = from_more 32

clear_cons : (x : ℕ) (xs : List ℕ) → 32 ≤ x → Clear xs → Clear (x ∷ xs)
clear_cons = from_cons 32

-- ---- texts

-- what stands for the bytes below n
abbrev clear_below : ℕ → Bool
clear_below zero = true
clear_below (suc n) = list_all (nat_le 32) (escape_byte n) && clear_below n

byte_below : (n : ℕ) → clear_below n ≡ true → (x : ℕ) → x < n → Clear (escape_byte x)
byte_below zero e x h = absurd (omega arith)
byte_below (suc n) e x h =
    let p = and_parts _ _ e in
    elim (cases_eq x n) [ inl same ↦ rw same p.0 | inr other ↦ byte_below n p.1 x (omega arith) ]

all_below : clear_below 128 ≡ true
unfolding escape_byte
all_below = refl

clear_byte : (x : ℕ) → Clear (escape_byte x)
clear_byte x = elim (cases_lt x 128) [
  | inl small ↦ byte_below 128 all_below x small
  | inr big ↦ subst Clear (sym (escape_byte_plain x (λ e. omega arith) (λ e. omega arith) (omega arith))) (clear_cons x [] (omega arith) refl)
]

clear_escape : (text : List ℕ) → Clear (escape text)
clear_escape [] = refl
clear_escape (x ∷ xs) = clear_more (escape_byte x) (escape xs) (clear_byte x) (clear_escape xs)

clear_quoted : (text : List ℕ) → Clear (quoted text)
clear_quoted text = clear_more (escape text) (34 ∷ []) (clear_escape text) refl

-- ---- numbers

decimal_clear : (n : ℕ) → Clear (decimal n)
decimal_clear n = lower 32 48 (decimal n) (omega arith) (decimal_from n)

signed_clear : (z : ℤ) → Clear (signed_decimal z)
signed_clear z = lower 32 45 (signed_decimal z) (omega arith) (signed_from z)

number_clear : (n : Num) → Clear (number_text n)
number_clear (unsigned n) = decimal_clear n
number_clear (negative z) = signed_clear z
number_clear (float x) = refl

-- ---- trees

comma_clear : (later : Bool) → Clear (comma_if later)
comma_clear true = refl
comma_clear false = refl

mutual
  pub tree_clear : (d : Data) → Clear (compact_text d)
  tree_clear null = refl
  tree_clear (boolean true) = refl
  tree_clear (boolean false) = refl
  tree_clear (number n) = number_clear n
  tree_clear (string s) = clear_quoted s
  tree_clear (array ds) = items_clear false ds
  tree_clear (object ms) = members_clear false ms

  items_clear : (later : Bool) (ds : Items) → Clear (items_text later ds)
  items_clear later no_items = refl
  items_clear later (item d ds) =
      let rest = clear_more (compact_text d) (items_text true ds) (tree_clear d) (items_clear true ds) in
      clear_more (comma_if later) (compact_text d ++ items_text true ds) (comma_clear later) rest

  members_clear : (later : Bool) (ms : Members) → Clear (members_text later ms)
  members_clear later no_members = refl
  members_clear later (member k d ms) =
      let rest = clear_more (compact_text d) (members_text true ms) (tree_clear d) (members_clear true ms) in
      let named = clear_more (quoted k) (58 ∷ (compact_text d ++ members_text true ms)) (clear_quoted k) (clear_cons 58 (compact_text d ++ members_text true ms) (omega arith) rest) in
      clear_more (comma_if later) (quoted k ++ 58 ∷ (compact_text d ++ members_text true ms)) (comma_clear later) named
