-- Lists and objects that are read from tokens, one value after the other.
use Rattle.std.proofs.Common.{◌≡◌, ℕ, ◌-◌, ◌<◌, ◌≤◌, List, [], ◌∷◌, ◌++◌, length, true, false, ◌&&◌, ◌||◌, Option, Some, None, Result, Ok, Err, refl, sym, ap, ap₂, ◌∙◌, arith, add-one, length-append}
use Rattle.std.specs.Prelude.{IfSome}
use Rattle.std.specs.Str.{bytes_eq}
use Rattle.std.proofs.lemmas.Bool.{and_parts}
use Rattle.std.proofs.lemmas.List.{append-nil}
use Rattle.std.proofs.lemmas.Slice.Eq.{bytes_eq-Decides}
use Rattle.json.specs.Token.{Token}
use Rattle.json.specs.Json.{parse_map, after_end_array, read_key, items, members, value}
use Rattle.json.proofs.Grammar.{read_key-shorter}
use Rattle.serde_json.specs.Data.{Data, array, object, Items, no_items, item, Members, no_members, put}
use Rattle.serde_json.specs.Find.{get_member}
use Rattle.serde_json.specs.Read.{of_items, converted}
use Rattle.serde_json.proofs.Views.{get_member-put}
use Rattle.grid_lemmas.proofs.Bools.{or_right}
use Rattle.grid_value.specs.View.{Listed, put_each}
use Rattle.grid_value.proofs.MemberLists.{unchanged, put_last, found_at}
use Rattle.grid_value.proofs.Turns.{after, opens_array, opens_object, item_turn, items_done, member_turn, members_done}
use Rattle.grid_json.specs.declared.fault.Fault.{Fault}
use Rattle.grid_json.specs.Reading.{items_at, array_at, present, under, knows}
use Rattle.grid_json.specs.Kept.{unlike}
use Rattle.grid_json.specs.Streams.{Streams, Takes, IsObject, IsRest, Among, BeginsWith, Led}
use Rattle.grid_json.proofs.IdSets.{same_flip}
use Rattle.grid_json.proofs.Items.{with_front, regroup}
use Rattle.grid_json.proofs.Objects.{are_known, each_known, has_only_is, put_known, last_known}

-- ---- items

together : (f g : Items → Items) (r : Option (Items × List Token)) → parse_map f (parse_map g r) ≡ parse_map (λ ds. f (g ds)) r
together f g None = refl
together f g (Some p) = refl

-- these items were read before those of the tokens that are left
abbrev pub ItemsRead : {A : Type 0} → (Data → Result A Fault) → ℕ → List Token → List Token → List A → Type 0
ItemsRead read depth all left list =
    (n : ℕ) × (length left ≤ n) × (before : (Items → Items))
    × (converted of_items (items (value depth) (length all) all) ≡ parse_map before (converted of_items (items (value depth) n left)))
    × ((rest : Items) → items_at read 0 (before rest) ≡ with_front list (items_at read (length list) rest))

module _ {A : Type 0} (read : Data → Result A Fault) where
  no_front : (r : Result (List A) Fault) → r ≡ with_front [] r
  no_front (Ok xs) = refl
  no_front (Err f) = refl

  pub items_begin : (depth : ℕ) (all : List Token) → ItemsRead read depth all all []
  items_begin depth all = (length all, omega arith, λ ds. ds, unchanged _, λ rest. no_front (items_at read 0 rest))

  next_item : (list : List A) (d : Data) (x : A) (rest : Items) → read d ≡ Ok x
      → with_front list (items_at read (length list) (item d rest)) ≡ with_front (list ++ x ∷ []) (items_at read (length (list ++ x ∷ [])) rest)
  unfolding items_at
  next_item list d x rest is = rw (is, length-append, add-one) (regroup list x _)

  pub items_go_on : (depth : ℕ) (all left rest : List Token) (list : List A) (x : A) → ItemsRead read depth all left list → after_end_array left ≡ None → Streams read depth left rest x → length rest < length left
      → ItemsRead read depth all rest (list ++ x ∷ [])
  items_go_on depth all left rest list x (n, few, before, so_far, leads) more (d, next, is) shorter =
      let turn = item_turn (value depth) n left rest d (omega (arith, few, shorter)) more next in (
        n - 1,
        omega (arith, few, shorter),
        λ ds. before (item d ds),
        so_far ∙ ap (parse_map before) turn ∙ together before (item d) _,
        λ ds. leads (item d ds) ∙ next_item list d x ds is,
      )

  no_more : (list : List A) → with_front list (items_at read (length list) no_items) ≡ Ok list
  unfolding items_at
  no_more list = ap Ok (append-nil list)

  pub items_end : (depth : ℕ) (old inner left new : List Token) (list : List A) → 0 < depth → old ≡ Token.begin_array ∷ inner → ItemsRead read (depth - 1) inner left list → after_end_array left ≡ Some new
      → Streams (array_at read) depth old new list
  items_end depth old inner left new list deep opens (n, few, before, so_far, leads) ends = (
    array (before no_items),
    opens_array depth old inner deep opens ∙ ap (parse_map array) (so_far ∙ ap (parse_map before) (items_done (value (depth - 1)) n left new few ends)),
    leads no_items ∙ no_more list,
  )

-- ---- members

-- so much of the members was read, one by one, before the tokens that are left
abbrev pub MembersRead : {S : Type 0} → List (List ℕ) → (S → Members → Type 0) → ℕ → List Token → List Token → S → S → Type 0
MembersRead names holds depth all left before so_far =
    (added : Listed) × (are_known names added ≡ true)
    × ((n : ℕ) (found : Members) → length all ≤ n
    → (m : ℕ) × (length left ≤ m)
    × (after found (members (value depth) n all) ≡ after (put_each added found) (members (value depth) m left)))
    × ((found : Members) → holds before found → holds so_far (put_each added found))

module _ {S : Type 0} (names : List (List ℕ)) (holds : S → Members → Type 0) (depth : ℕ) where
  pub members_begin : (all : List Token) (s : S) → MembersRead names holds depth all all s s
  members_begin all s = ([], refl, λ n found few. (n, few, refl), λ found held. held)

  pub members_go_on : (all left behind rest : List Token) (name : List ℕ) (before s t : S)
      → MembersRead names holds depth all left before s → read_key left ≡ Some (Some name, behind)
      → knows names name ≡ true → Takes holds name depth behind rest s t → length rest < length behind
      → MembersRead names holds depth all rest before t
  members_go_on all left behind rest name before s t (added, known, so_far, held) key is (d, next, keeps) shorter =
      let less = read_key-shorter left (Some name) behind key in
      let last = put_last added name d in (
        added ++ (name, d) ∷ [],
        last_known names added name d is ∙ known,
        λ n found few.
            let (m, enough, is_so) = so_far n found few in (
              m - 1,
              omega (arith, enough, less, shorter),
              is_so ∙ member_turn (value depth) (put_each added found) m name left behind rest d (omega (arith, enough, less)) key next
                  ∙ ap (λ ms. after ms (members (value depth) (m - 1) rest)) (sym (last found)),
            ),
        λ found was. rw (last found) (keeps (put_each added found) (held found was)),
      )

  pub members_end : (all left new : List Token) (before s : S) → MembersRead names holds depth all left before s
      → read_key left ≡ Some (None, new) → IsRest names holds depth all new before s
  members_end all left new before s (added, known, so_far, held) ends = (
    added,
    known,
    λ n found few.
        let (m, enough, is_so) = so_far n found few in
        is_so ∙ members_done (value depth) (put_each added found) m left new enough ends,
    held,
  )

-- ---- objects

-- all members of an object, where they were read
pub object_read : {S : Type 0} (names : List (List ℕ)) (holds : S → Members → Type 0) (depth : ℕ)
    (old inner new : List Token) (before : S) (slots : Option S) → 0 < depth → old ≡ Token.begin_object ∷ inner
    → holds before no_members → IfSome slots (IsRest names holds (depth - 1) inner new before)
    → IfSome slots (λ s. IsObject (Among names holds s) depth old new)
object_read names holds depth old inner new before None deep opens none rest = tt
object_read names holds depth old inner new before (Some s) deep opens none (added, known, rest, held) = (
  put_each added no_members,
  opens_object depth old inner deep opens ∙ ap (parse_map object) (rest (length inner) no_members (omega arith)),
  (has_only_is names added ∙ known, held no_members none),
)

-- members of these names leave that of another name as it is
still : (names : List (List ℕ)) (name : List ℕ) (added : Listed) (found : Members) → knows names name ≡ false
    → are_known names added ≡ true → get_member name (put_each added found) ≡ get_member name found
still names name [] found other known = refl
still names name (m ∷ added) found other known =
    let both = and_parts (knows names m.0) (are_known names added) known in
    still names name added (put m.0 m.1 found) other both.1
    ∙ found_at name m.0 m.1 found false (same_flip m.0 name ∙ unlike names name m.0 other both.0)

more_known : (names : List (List ℕ)) (name : List ℕ) (added : Listed) → are_known names added ≡ true
    → are_known (name ∷ names) added ≡ true
more_known names name [] known = refl
more_known names name (m ∷ added) known =
    let both = and_parts (knows names m.0) (are_known names added) known in
    ap₂ (λ a b. a && b) (or_right (bytes_eq name m.0) (knows names m.0) both.0) (more_known names name added both.1)

-- an object whose first member was read before the others, where those were read
pub led_object : {A S : Type 0} (read : Data → Result A Fault) (name : List ℕ) (names : List (List ℕ))
    (holds : S → Members → Type 0) (depth : ℕ) (left new : List Token) (before : S) (slots : Option S)
    → ((d : Data) → holds before (put name d no_members)) → knows names name ≡ false
    → IfSome slots (IsRest names holds (depth - 1) left new before)
    → IfSome slots (λ s. (x : A) (old : List Token) → BeginsWith read name depth old left x
    → IsObject (Led read name x names holds s) depth old new)
led_object read name names holds depth left new before None none other all = tt
led_object read name names holds depth left new before (Some s) none other (added, known, rest, held) = λ x old begins.
    let (inner, behind, deep, opens, key, (d, next, is), shorter) = begins in
    let less = read_key-shorter inner (Some name) behind key in
    let first = put name d no_members in
    let found = put_each added first in (
      found,
      opens_object depth old inner deep opens ∙ ap (parse_map object)
          (member_turn (value (depth - 1)) no_members (length inner) name inner behind left d (omega (arith, less)) key next
          ∙ rest (length inner - 1) first (omega (arith, less, shorter))),
      (
        ap (present read name) (still names name added first other known ∙ get_member-put name d no_members) ∙ ap (under name) is,
        each_known (name ∷ names) added first ∙ ap₂ (λ a b. a && b) (more_known names name added known)
            (put_known (name ∷ names) name d no_members ∙ ap (λ a. (a || knows names name) && true) ((bytes_eq-Decides name name).1 refl)),
        held first (none d),
      ),
    )
