-- The text of a tree is UTF-8 where its texts are.
use Rattle.std.proofs.Common.{ℕ, suc, pos, negsuc, Bool, true, false, List, [], ◌∷◌, ◌++◌, refl, arith}
use Rattle.std.specs.Prelude.{IsUtf8, decimal}
use Rattle.std.proofs.lemmas.Str.{IsUtf8-append, IsUtf8-nil, IsUtf8-from_ascii}
use Rattle.std.proofs.lemmas.Fmt.{IsAscii-decimal}
use Rattle.json.specs.Print.{quoted}
use Rattle.json.proofs.Printed.Utf8.{IsUtf8-are_ascii, IsUtf8-quoted, IsUtf8-boolean}
use Rattle.serde_json.specs.Data.{Num, unsigned, negative, float, Data, null, boolean, number, string, array, object, Items, no_items, item, Members, no_members, member}
use Rattle.serde_json.specs.Written.{number_text, comma_if, compact_text, items_text, members_text}
use Rattle.grid_told.specs.Trees.{IsWhole, HasWholes, ItemsHaveWholes, MembersHaveWholes, HasTexts, ItemsHaveTexts, MembersHaveTexts}

number_utf8 : (n : Num) → IsWhole n → IsUtf8 (number_text n)
number_utf8 (unsigned n) h = IsUtf8-from_ascii (decimal n) (IsAscii-decimal n h)
number_utf8 (negative (pos n)) h = absurd h
number_utf8 (negative (negsuc n)) h = IsUtf8-append (45 ∷ []) (decimal (suc n)) (IsUtf8-are_ascii (45 ∷ []) refl) (IsUtf8-from_ascii (decimal (suc n)) (IsAscii-decimal (suc n) (omega (arith, h))))
number_utf8 (float x) h = absurd h

comma_utf8 : (later : Bool) → IsUtf8 (comma_if later)
comma_utf8 true = IsUtf8-are_ascii (44 ∷ []) refl
comma_utf8 false = IsUtf8-nil

behind_byte : (byte : ℕ) (text : List ℕ) → IsUtf8 (byte ∷ []) → IsUtf8 text → IsUtf8 (byte ∷ text)
behind_byte byte text one rest = IsUtf8-append (byte ∷ []) text one rest

mutual
  pub tree_utf8 : (d : Data) → HasWholes d → HasTexts d → IsUtf8 (compact_text d)
  tree_utf8 null h k = IsUtf8-are_ascii (110 ∷ 117 ∷ 108 ∷ 108 ∷ []) refl
  tree_utf8 (boolean b) h k = IsUtf8-boolean b
  tree_utf8 (number n) h k = number_utf8 n h
  tree_utf8 (string s) h k = IsUtf8-quoted s k
  tree_utf8 (array ds) h k = behind_byte 91 (items_text false ds) (IsUtf8-are_ascii (91 ∷ []) refl) (items_utf8 false ds h k)
  tree_utf8 (object ms) h k = behind_byte 123 (members_text false ms) (IsUtf8-are_ascii (123 ∷ []) refl) (members_utf8 false ms h k)

  items_utf8 : (later : Bool) (ds : Items) → ItemsHaveWholes ds → ItemsHaveTexts ds → IsUtf8 (items_text later ds)
  items_utf8 later no_items h k = IsUtf8-are_ascii (93 ∷ []) refl
  items_utf8 later (item d ds) h k =
      let rest = IsUtf8-append (compact_text d) (items_text true ds) (tree_utf8 d h.0 k.0) (items_utf8 true ds h.1 k.1) in
      IsUtf8-append (comma_if later) (compact_text d ++ items_text true ds) (comma_utf8 later) rest

  members_utf8 : (later : Bool) (ms : Members) → MembersHaveWholes ms → MembersHaveTexts ms → IsUtf8 (members_text later ms)
  members_utf8 later no_members h k = IsUtf8-are_ascii (125 ∷ []) refl
  members_utf8 later (member name d ms) h k =
      let rest = IsUtf8-append (compact_text d) (members_text true ms) (tree_utf8 d h.0 k.1.0) (members_utf8 true ms h.1 k.1.1) in
      let colon = behind_byte 58 (compact_text d ++ members_text true ms) (IsUtf8-are_ascii (58 ∷ []) refl) rest in
      let named = IsUtf8-append (quoted name) (58 ∷ (compact_text d ++ members_text true ms)) (IsUtf8-quoted name k.0) colon in
      IsUtf8-append (comma_if later) (quoted name ++ 58 ∷ (compact_text d ++ members_text true ms)) (comma_utf8 later) named
