-- What one turn of reading an array or an object does to the data that is read.
use Rattle.std.proofs.Common.{◌≡◌, ℕ, suc, zero, ◌-◌, ◌<◌, ◌≤◌, List, [], ◌∷◌, length, Option, Some, None, option_map, option_and_then, refl, ap, ap₂, ◌∙◌}
use Rattle.json.specs.Token.{Token}
use Rattle.json.specs.Json as json
use Rattle.json.specs.Json.{Parse, parse_map, after_end_array, read_key, items_step, items, members, if_last}
use Rattle.json.proofs.Grammar.{value-begin_array, value-begin_object, items_end, items_more, members_end, members_no_key, members_more}
use Rattle.serde_json.specs.Data.{Data, array, object, no_items, item, Members, no_members, put}
use Rattle.serde_json.specs.Read.{of_json, of_items, of_members, converted}

abbrev Read : Type 0 → Type 0
Read A = Option (A × List Token)

-- members that are read go in behind those that were found
abbrev pub after : Members → Read json.Members → Read Members
after found read = converted (λ ms. of_members ms found) read

-- ---- what was read, and its data

abbrev or_else : {A : Type 0} → A → Option A → A
or_else a None = a
or_else a (Some b) = b

apart : {B : Type 0} (r s : List Token) (x : Option B) (b : B) → option_map {U = B × List Token} (λ y. (y, r)) x ≡ Some (b, s) → (x ≡ Some b) × (r ≡ s)
apart r s None b e = absurd (cc)
apart r s (Some y) b e = let pair = ap (or_else (y, r)) e in (ap (λ p. Some p.0) pair, ap (λ p. p.1) pair)

-- data that were read are those of a value that was read
pub origin : {A B : Type 0} (f : A → Option B) (read : Read A) (b : B) (r : List Token) → converted f read ≡ Some (b, r) → (a : A) × (f a ≡ Some b) × (read ≡ Some (a, r))
origin f None b r e = absurd (cc)
origin f (Some p) b r e = let two = apart p.1 r (f p.0) b e in (p.0, two.0, ap (λ s. Some (p.0, s)) two.1)

nothing : {B : Type 0} (r : List Token) (x : Option B) → option_map {U = B × List Token} (λ y. (y, r)) x ≡ None → x ≡ None
nothing r None e = refl
nothing r (Some y) e = absurd (cc)

inside : {A B : Type 0} (g : A → B) (r : List Token) (x : Option A) → option_map (λ b. (b, r)) (option_map g x) ≡ parse_map g (option_map (λ a. (a, r)) x)
inside g r None = refl
inside g r (Some a) = refl

pub of_array : (read : Read json.Items) → converted of_json (parse_map json.array read) ≡ parse_map array (converted of_items read)
of_array None = refl
of_array (Some p) = inside array p.1 (of_items p.0)

pub of_object : (read : Read json.Members) → converted of_json (parse_map json.object read) ≡ parse_map object (after no_members read)
of_object None = refl
of_object (Some p) = inside object p.1 (of_members p.0 no_members)

-- ---- items

one_item : (j : json.Json) (d : Data) (rest : Read json.Items) → of_json j ≡ Some d → converted of_items (parse_map (json.item j) rest) ≡ parse_map (item d) (converted of_items rest)
one_item j d None e = refl
one_item j d (Some p) e = rw e (inside (item d) p.1 (of_items p.0))

bad_item : (j : json.Json) (rest : Read json.Items) → of_json j ≡ None → converted of_items (parse_map (json.item j) rest) ≡ None
bad_item j None e = refl
bad_item j (Some p) e = rw e

no_item : (more : Parse json.Items) (read : Read json.Json) → converted of_json read ≡ None → converted of_items (option_and_then (λ q. parse_map (json.item q.0) (more q.1)) read) ≡ None
no_item more None e = refl
no_item more (Some q) e = bad_item q.0 (more q.1) (nothing q.1 (of_json q.0) e)

-- ---- members

one_member : (name : List ℕ) (j : json.Json) (d : Data) (found : Members) (rest : Read json.Members) → of_json j ≡ Some d → after found (parse_map (json.member name j) rest) ≡ after (put name d found) rest
one_member name j d found None e = refl
one_member name j d found (Some p) e = rw e

bad_member : (name : List ℕ) (j : json.Json) (found : Members) (rest : Read json.Members) → of_json j ≡ None → after found (parse_map (json.member name j) rest) ≡ None
bad_member name j found None e = refl
bad_member name j found (Some p) e = rw e

no_member : (name : List ℕ) (found : Members) (more : Parse json.Members) (read : Read json.Json) → converted of_json read ≡ None
    → after found (option_and_then (λ q. parse_map (json.member name q.0) (more q.1)) read) ≡ None
no_member name found more None e = refl
no_member name found more (Some q) e = bad_member name q.0 found (more q.1) (nothing q.1 (of_json q.0) e)

-- ---- what a token opens

pub opens_array : (depth : ℕ) (ts rest : List Token) → 0 < depth → ts ≡ Token.begin_array ∷ rest
    → converted of_json (json.value depth ts) ≡ parse_map array (converted of_items (items (json.value (depth - 1)) (length rest) rest))
opens_array depth ts rest some is =
    ap (λ all. converted of_json (json.value depth all)) is ∙ ap (converted of_json) (value-begin_array depth rest some) ∙ of_array (items (json.value (depth - 1)) (length rest) rest)

pub opens_object : (depth : ℕ) (ts rest : List Token) → 0 < depth → ts ≡ Token.begin_object ∷ rest
    → converted of_json (json.value depth ts) ≡ parse_map object (after no_members (members (json.value (depth - 1)) (length rest) rest))
opens_object depth ts rest some is =
    ap (λ all. converted of_json (json.value depth all)) is ∙ ap (converted of_json) (value-begin_object depth rest some) ∙ of_object (members (json.value (depth - 1)) (length rest) rest)

pub array_too_deep : (depth : ℕ) (ts rest : List Token) → depth ≡ 0 → ts ≡ Token.begin_array ∷ rest → converted of_json (json.value depth ts) ≡ None
unfolding json.value
array_too_deep depth ts rest none is = ap₂ (λ n all. converted of_json (json.value n all)) none is

pub object_too_deep : (depth : ℕ) (ts rest : List Token) → depth ≡ 0 → ts ≡ Token.begin_object ∷ rest → converted of_json (json.value depth ts) ≡ None
unfolding json.value
object_too_deep depth ts rest none is = ap₂ (λ n all. converted of_json (json.value n all)) none is

-- ---- turns

module _ (value : Parse json.Json) where
  pub item_turn : (n : ℕ) (ts r : List Token) (d : Data) → 0 < n → after_end_array ts ≡ None → converted of_json (value ts) ≡ Some (d, r)
      → converted of_items (items value n ts) ≡ parse_map (item d) (converted of_items (items value (n - 1) r))
  item_turn n ts r d some more_come e =
      let from = origin of_json (value ts) d r e in
      ap (converted of_items) (items_more value n ts r from.0 some more_come from.2) ∙ one_item from.0 d (items value (n - 1) r) from.1

  pub item_refused : (n : ℕ) (ts : List Token) → after_end_array ts ≡ None → converted of_json (value ts) ≡ None → converted of_items (items value n ts) ≡ None
  unfolding items
  item_refused zero ts more_come e = refl
  item_refused (suc n) ts more_come e = ap (λ end. converted of_items (items_step value (items value n) ts end)) more_come ∙ no_item (items value n) (value ts) e

  pub items_done : (n : ℕ) (ts r : List Token) → length ts ≤ n → after_end_array ts ≡ Some r → converted of_items (items value n ts) ≡ Some (no_items, r)
  items_done n ts r enough e = ap (converted of_items) (items_end value n ts r enough e)

  pub member_turn : (found : Members) (n : ℕ) (name : List ℕ) (ts s r : List Token) (d : Data) → 0 < n → read_key ts ≡ Some (Some name, s) → converted of_json (value s) ≡ Some (d, r)
      → after found (members value n ts) ≡ after (put name d found) (members value (n - 1) r)
  member_turn found n name ts s r d some key e =
      let from = origin of_json (value s) d r e in
      ap (after found) (members_more value n name ts s r from.0 some key from.2) ∙ one_member name from.0 d found (members value (n - 1) r) from.1

  pub member_refused : (found : Members) (n : ℕ) (name : List ℕ) (ts s : List Token) → read_key ts ≡ Some (Some name, s) → converted of_json (value s) ≡ None → after found (members value n ts) ≡ None
  unfolding members
  member_refused found zero name ts s key e = refl
  member_refused found (suc n) name ts s key e = rw key (no_member name found (members value n) (value s) e)

  pub name_refused : (found : Members) (n : ℕ) (ts : List Token) → read_key ts ≡ None → after found (members value n ts) ≡ None
  name_refused found n ts e = ap (after found) (members_no_key value n ts e)

  pub members_done : (found : Members) (n : ℕ) (ts r : List Token) → length ts ≤ n → read_key ts ≡ Some (None, r) → after found (members value n ts) ≡ Some (found, r)
  members_done found n ts r enough e = ap (after found) (members_end value n ts r enough e)

-- ---- the whole text

-- the data of a text, of what is read first
abbrev pub whole : Read json.Json → Option Data
whole read = option_and_then of_json (option_and_then (λ p. if_last p.0 p.1) read)

pub whole_some : (read : Read json.Json) (d : Data) → converted of_json read ≡ Some (d, []) → whole read ≡ Some d
whole_some read d e = let from = origin of_json read d [] e in ap whole from.2 ∙ from.1

pub whole_longer : (read : Read json.Json) (d : Data) (r : List Token) → converted of_json read ≡ Some (d, r) → (r ≡ [] → ⊥) → whole read ≡ None
whole_longer read d [] e more = absurd (more refl)
whole_longer read d (t ∷ ts) e more = ap whole (origin of_json read d (t ∷ ts) e).2

pub whole_none : (read : Read json.Json) → converted of_json read ≡ None → whole read ≡ None
whole_none None e = refl
whole_none (Some (j, [])) e = nothing [] (of_json j) e
whole_none (Some (j, t ∷ ts)) e = refl
