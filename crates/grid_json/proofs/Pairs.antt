-- Arrays of two and of three items that are read from tokens.
use Rattle.std.proofs.Common.{◌≡◌, ℕ, suc, ◌-◌, ◌<◌, List, [], ◌∷◌, length, Option, Some, None, Result, Ok, Err, refl, ap, ◌∙◌}
use Rattle.std.specs.Prelude.{decimal}
use Rattle.json.specs.Token.{Token}
use Rattle.json.specs.Json.{after_end_array}
use Rattle.serde_json.specs.Data.{Data, Items, no_items, item}
use Rattle.serde_json.specs.Find.{get, as_array}
use Rattle.grid_json.specs.declared.fault.Fault.{Fault}
use Rattle.grid_json.specs.declared.fault.Reason.TheVariants.{WrongKind}
use Rattle.grid_json.specs.declared.ends.Two.{Two}
use Rattle.grid_json.specs.declared.ends.Three.{Three}
use Rattle.grid_json.specs.Reading.{◌>>=◌, or_fault, under, items_at, array_at, present, member_at}
use Rattle.grid_json.specs.Network.{both, two_of, two_at, all_three, three_of, three_at}
use Rattle.grid_json.specs.Streams.{Streams}
use Rattle.grid_json.proofs.Streams.{items_begin, items_go_on, items_end}

abbrev pub two : {A : Type 0} → A → A → Two A
two a b = record { first = a; second = b }

abbrev pub three : {A : Type 0} → A → A → A → Three A
three a b c = record { first = a; second = b; third = c }

module _ {A : Type 0} (read : Data → Result A Fault) where
  first_and_rest : (r : Result A Fault) (rs : Result (List A) Fault) (x : A) (xs : List A)
      → (r >>= λ y. rs >>= λ ys. Ok (y ∷ ys)) ≡ Ok (x ∷ xs) → (r ≡ Ok x) × (rs ≡ Ok xs)
  first_and_rest (Ok y) (Ok ys) x xs is = (cc, cc)
  first_and_rest (Ok y) (Err f) x xs is = cc
  first_and_rest (Err f) rs x xs is = cc

  -- what one item and those behind it were read as
  first_item : (i : ℕ) (ds : Items) (x : A) (xs : List A) → items_at read i ds ≡ Ok (x ∷ xs)
      → (d : Data) × (es : Items) × (ds ≡ item d es) × (under (decimal i) (read d) ≡ Ok x) × (items_at read (suc i) es ≡ Ok xs)
  unfolding items_at
  first_item i no_items x xs is = cc
  first_item i (item d es) x xs is =
      let both_read = first_and_rest (under (decimal i) (read d)) (items_at read (suc i) es) x xs is in
      (d, es, refl, both_read.0, both_read.1)

  not_none : (r : Result A Fault) (rs : Result (List A) Fault) → (r >>= λ y. rs >>= λ ys. Ok (y ∷ ys)) ≡ Ok [] → ⊥
  not_none (Ok y) (Ok ys) is = cc
  not_none (Ok y) (Err f) is = cc
  not_none (Err f) rs is = cc

  last_item : (i : ℕ) (ds : Items) → items_at read i ds ≡ Ok [] → ds ≡ no_items
  unfolding items_at
  last_item i no_items is = refl
  last_item i (item d es) is = absurd (not_none (under (decimal i) (read d)) (items_at read (suc i) es) is)

  two_in : (ds : Items) (a b : A) → items_at read 0 ds ≡ Ok (a ∷ b ∷ []) → two_of read ds ≡ Ok (two a b)
  unfolding two_of both
  two_in ds a b is =
      let (d, ds1, so, one, rest) = first_item 0 ds a (b ∷ []) is in
      let (e, ds2, so1, other, rest1) = first_item 1 ds1 b [] rest in
      let none = last_item 2 ds2 rest1 in
      ap (two_of read) (so ∙ ap (item d) (so1 ∙ ap (item e) none)) ∙ rw (one, other) refl

  three_in : (ds : Items) (a b c : A) → items_at read 0 ds ≡ Ok (a ∷ b ∷ c ∷ []) → three_of read ds ≡ Ok (three a b c)
  unfolding three_of all_three
  three_in ds a b c is =
      let (d, ds1, so, one, rest) = first_item 0 ds a (b ∷ c ∷ []) is in
      let (e, ds2, so1, other, rest1) = first_item 1 ds1 b (c ∷ []) rest in
      let (f, ds3, so2, last, rest2) = first_item 2 ds2 c [] rest1 in
      let none = last_item 3 ds3 rest2 in
      ap (three_of read) (so ∙ ap (item d) (so1 ∙ ap (item e) (so2 ∙ ap (item f) none))) ∙ rw (one, other, last) refl

  two_items : (ds : Option Items) (a b : A)
      → (or_fault WrongKind ds >>= λ found. items_at read 0 found) ≡ Ok (a ∷ b ∷ [])
      → (or_fault WrongKind ds >>= two_of read) ≡ Ok (two a b)
  two_items None a b is = cc
  two_items (Some ds) a b is = two_in ds a b is

  three_items : (ds : Option Items) (a b c : A)
      → (or_fault WrongKind ds >>= λ found. items_at read 0 found) ≡ Ok (a ∷ b ∷ c ∷ [])
      → (or_fault WrongKind ds >>= three_of read) ≡ Ok (three a b c)
  three_items None a b c is = cc
  three_items (Some ds) a b c is = three_in ds a b c is

  was_read : {B : Type 0} (name : List ℕ) (r : Result B Fault) (x : B) → under name r ≡ Ok x → r ≡ Ok x
  was_read name (Ok y) x is = is
  was_read name (Err f) x is = cc

  present_two : (name : List ℕ) (d : Option Data) (a b : A) → present (array_at read) name d ≡ Ok (a ∷ b ∷ [])
      → present (two_at read) name d ≡ Ok (two a b)
  present_two name None a b is = cc
  present_two name (Some d) a b is =
      ap (under name) (two_items (as_array d) a b (was_read name (array_at read d) (a ∷ b ∷ []) is))

  present_three : (name : List ℕ) (d : Option Data) (a b c : A) → present (array_at read) name d ≡ Ok (a ∷ b ∷ c ∷ [])
      → present (three_at read) name d ≡ Ok (three a b c)
  present_three name None a b c is = cc
  present_three name (Some d) a b c is =
      ap (under name) (three_items (as_array d) a b c (was_read name (array_at read d) (a ∷ b ∷ c ∷ []) is))

  -- a member that is an array of two
  pub two_member : (name : List ℕ) (d : Data) {list : List A} {a b : A} → member_at (array_at read) name d ≡ Ok list
      → list ≡ a ∷ b ∷ [] → member_at (two_at read) name d ≡ Ok (two a b)
  two_member name d {list} {a} {b} is two_are = present_two name (get name d) a b (is ∙ ap Ok two_are)

  -- a member that is an array of three
  pub three_member : (name : List ℕ) (d : Data) {list : List A} {a b c : A} → member_at (array_at read) name d ≡ Ok list
      → list ≡ a ∷ b ∷ c ∷ [] → member_at (three_at read) name d ≡ Ok (three a b c)
  three_member name d {list} {a} {b} {c} is three_are = present_three name (get name d) a b c (is ∙ ap Ok three_are)

  -- two values one after the other, between brackets
  pub two_end : (depth : ℕ) (old inner left rest new : List Token) (a b : A) → 0 < depth
      → old ≡ Token.begin_array ∷ inner → after_end_array inner ≡ None
      → Streams read (depth - 1) inner left a → length left < length inner → after_end_array left ≡ None
      → Streams read (depth - 1) left rest b → length rest < length left → after_end_array rest ≡ Some new
      → Streams (two_at read) depth old new (two a b)
  two_end depth old inner left rest new a b deep opens more one shorter again other lesser ends =
      let start = items_begin read (depth - 1) inner in
      let first = items_go_on read (depth - 1) inner inner left [] a start more one shorter in
      let second = items_go_on read (depth - 1) inner left rest (a ∷ []) b first again other lesser in
      let all = items_end read depth old inner rest new (a ∷ b ∷ []) deep opens second ends in
      (all.0, all.1, two_items (as_array all.0) a b all.2)
