-- The numbers of a value that bytes spell fit, and its texts are those that stand in the tree of the bytes.
use Rattle.std.proofs.Common.{◌≡◌, ◌<◌, ◌≤◌, ◌^◌, ◌&&◌, ℕ, zero, suc, Bool, true, false, cond, List, Some, None, Ordering, Less, Equal, Greater, drop, option_map, option_and_then, refl, subst, arith}
use Rattle.std.specs.Prelude.{◌==◌, nat_lt, nat_le, slice_index, ⊤}
use Rattle.std.specs.Float.{binary64, float_is_finite}
use Rattle.std.specs.Str.{is_utf8}
use Rattle.std.specs.Ordering.{nat_cmp, match_ordering}
use Rattle.std.specs.Cmp.Lexicographic.{slice_cmp}
use Rattle.std.proofs.lemmas.Bool.{and_parts, leb-true, ltb-true}
use Rattle.fast_float.specs.Text.{Parts, minus, scan, digits_of, nearest, with_sign}
use Rattle.json.specs.Json as json
use Rattle.json.specs.Lex.{tokens}
use Rattle.serde_json.specs.Data.{Num, unsigned, negative, float, Data, null, boolean, number, string, array, object, Items, no_items, item, Members, no_members, member, put}
use Rattle.serde_json.specs.Read.{is_integer, float_of, number_from, number_of, of_json, of_items, of_members, max_depth, read}
use Rattle.grid_value.specs.Bytes.{reading}
use Rattle.grid_reading_back.proofs.Options.{mapped, chained}
use Rattle.grid_reading_back.proofs.Legible.{IsSigned, IsLegibleNumber, IsLegible, ItemsAreLegible, MembersAreLegible}

-- ---- numbers

float_legible : (sign : Bool) (p : Parts) (n : Num) → float_of sign p ≡ Some n → IsLegibleNumber n
float_legible sign p n is = by (float_is_finite (nearest binary64 sign p)) is
  where
    by : (b : Bool) → cond b (Some (float (nearest binary64 sign p))) None ≡ Some n → IsLegibleNumber n
    by true h = let same : float (nearest binary64 sign p) ≡ n = cc in subst IsLegibleNumber same tt
    by false h = cc

signed : (k : ℕ) → 0 < k → k ≤ 2 ^ 63 → IsSigned (with_sign true k)
signed zero some few = absurd (omega arith)
signed (suc k) some few = omega (arith, few)

above_legible : (p : Parts) (n : Num) → number_from false p ≡ Some n → IsLegibleNumber n
above_legible p n is = by (is_integer p && nat_lt (digits_of p) (2 ^ 64)) is
  where
    by : (b : Bool) → cond b (Some (unsigned (digits_of p))) (float_of false p) ≡ Some n → IsLegibleNumber n
    by true h = let same : unsigned (digits_of p) ≡ n = cc in subst IsLegibleNumber same tt
    by false h = float_legible false p n h

below_legible : (p : Parts) (n : Num) → number_from true p ≡ Some n → IsLegibleNumber n
below_legible p n is = by (is_integer p && nat_lt 0 (digits_of p) && nat_le (digits_of p) (2 ^ 63)) refl is
  where
    by : (b : Bool) → (is_integer p && nat_lt 0 (digits_of p) && nat_le (digits_of p) (2 ^ 63)) ≡ b → cond b (Some (negative (with_sign true (digits_of p)))) (float_of true p) ≡ Some n → IsLegibleNumber n
    by true e h =
        let outer = and_parts (is_integer p && nat_lt 0 (digits_of p)) (nat_le (digits_of p) (2 ^ 63)) e in
        let inner = and_parts (is_integer p) (nat_lt 0 (digits_of p)) outer.0 in
        let same : negative (with_sign true (digits_of p)) ≡ n = cc in
        subst IsLegibleNumber same (signed (digits_of p) (ltb-true 0 (digits_of p) inner.1) (leb-true (digits_of p) (2 ^ 63) outer.1))
    by false e h = float_legible true p n h

number_legible : (s : List ℕ) (n : Num) → number_of s ≡ Some n → IsLegibleNumber n
unfolding number_of
number_legible s n is = by (slice_index s 0 == minus) is
  where
    by : (b : Bool) → cond b (number_from true (scan (drop 1 s))) (number_from false (scan s)) ≡ Some n → IsLegibleNumber n
    by true h = below_legible (scan (drop 1 s)) n h
    by false h = above_legible (scan s) n h

-- ---- values

module _ (T : List ℕ → Type 0) where
  abbrev mutual
    pub TreeKeeps : json.Json → Type 0
    TreeKeeps json.null = ⊤
    TreeKeeps (json.boolean b) = ⊤
    TreeKeeps (json.number s) = ⊤
    TreeKeeps (json.string s) = T s
    TreeKeeps (json.array js) = ItemsKeep js
    TreeKeeps (json.object ms) = MembersKeep ms

    pub ItemsKeep : json.Items → Type 0
    ItemsKeep json.no_items = ⊤
    ItemsKeep (json.item j js) = TreeKeeps j × ItemsKeep js

    pub MembersKeep : json.Members → Type 0
    MembersKeep json.no_members = ⊤
    MembersKeep (json.member k j ms) = TreeKeeps j × MembersKeep ms

  put_legible : (k : List ℕ) (d : Data) (ms : Members) → IsLegible T d → MembersAreLegible T ms → MembersAreLegible T (put k d ms)
  put_legible k d no_members new old = (new, tt)
  put_legible k d (member l e ms) new old = by (slice_cmp nat_cmp k l) (put_legible k d ms new old.1)
    where
      by : (o : Ordering) → MembersAreLegible T (put k d ms) → MembersAreLegible T (match_ordering o (member k d (member l e ms)) (member l d ms) (member l e (put k d ms)))
      by Less later = (new, old)
      by Equal later = (new, old.1)
      by Greater later = (old.0, later)

  mutual
    pub tree_legible : (j : json.Json) (d : Data) → TreeKeeps j → of_json j ≡ Some d → IsLegible T d
    tree_legible json.null d keeps is = let same : null ≡ d = cc in subst (IsLegible T) same tt
    tree_legible (json.boolean b) d keeps is = let same : boolean b ≡ d = cc in subst (IsLegible T) same tt
    tree_legible (json.number s) d keeps is = let a = mapped number (number_of s) d is in subst (IsLegible T) a.2 (number_legible s a.0 a.1)
    tree_legible (json.string s) d keeps is = let same : string s ≡ d = cc in subst (IsLegible T) same keeps
    tree_legible (json.array js) d keeps is = let a = mapped array (of_items js) d is in subst (IsLegible T) a.2 (items_legible js a.0 keeps a.1)
    tree_legible (json.object ms) d keeps is = let a = mapped object (of_members ms no_members) d is in subst (IsLegible T) a.2 (members_legible ms no_members a.0 keeps tt a.1)

    items_legible : (js : json.Items) (ds : Items) → ItemsKeep js → of_items js ≡ Some ds → ItemsAreLegible T ds
    items_legible json.no_items ds keeps is = let same : no_items ≡ ds = cc in subst (ItemsAreLegible T) same tt
    items_legible (json.item j js) ds keeps is =
        let a = chained (λ d. option_map (item d) (of_items js)) (of_json j) ds is in
        let b = mapped (item a.0) (of_items js) ds a.2 in
        subst (ItemsAreLegible T) b.2 (tree_legible j a.0 keeps.0 a.1, items_legible js b.0 keeps.1 b.1)

    members_legible : (ms : json.Members) (found out : Members) → MembersKeep ms → MembersAreLegible T found → of_members ms found ≡ Some out → MembersAreLegible T out
    members_legible json.no_members found out keeps old is = let same : found ≡ out = cc in subst (MembersAreLegible T) same old
    members_legible (json.member k j ms) found out keeps old is =
        let a = chained (λ d. of_members ms (put k d found)) (of_json j) out is in
        members_legible ms (put k a.0 found) out keeps.1 (put_legible k a.0 found (tree_legible j a.0 keeps.0 a.1) old) a.2

  -- ---- bytes, where the texts of the tree that they spell keep the rule

  pub reading_legible : (bytes : List ℕ) (d : Data)
      → ((j : json.Json) → is_utf8 bytes ≡ true → option_and_then (λ p. json.if_last p.0 p.1) (json.value max_depth (tokens bytes)) ≡ Some j → TreeKeeps j) → reading bytes ≡ Some d → IsLegible T d
  unfolding reading
  reading_legible bytes d keeps is = by (is_utf8 bytes) refl is
    where
      by : (b : Bool) → is_utf8 bytes ≡ b → cond b (read bytes) None ≡ Some d → IsLegible T d
      by true e h =
          let a = chained of_json (option_and_then (λ p. json.if_last p.0 p.1) (json.value max_depth (tokens bytes))) d h in
          tree_legible a.0 d (keeps a.0 e a.1) a.2
      by false e h = cc
