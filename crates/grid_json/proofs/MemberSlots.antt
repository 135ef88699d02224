-- Slots that are filled with the members of an object, one by one.
use Rattle.std.proofs.Common.{◌≡◌, ◌<◌, ℕ, List, length, true, ◌&&◌, Option, Some, None, Result, Ok, Err, refl, sym, ap, ap₂, ◌∙◌}
use Rattle.std.specs.Prelude.{unwrap_or}
use Rattle.std.specs.Str.{bytes_eq}
use Rattle.std.proofs.lemmas.Slice.Eq.{bytes_eq-Decides}
use Rattle.json.specs.Token.{Token}
use Rattle.serde_json.specs.Data.{Data, object, Members, no_members, put}
use Rattle.serde_json.proofs.Views.{get_member-put}
use Rattle.serde_json.specs.Find.{get_member}
use Rattle.grid_json.specs.declared.fault.Fault.{Fault}
use Rattle.grid_json.specs.Reading.{◌>>=◌, present, present_or, some_of, member_at, member_or, optional_at, under, knows, all_known}
use Rattle.grid_json.specs.declared.tokens.Offer.{Offer}
use Rattle.grid_json.specs.declared.tokens.Offer.TheVariants.{Taken, Unknown, Fault as Refused}
use Rattle.grid_json.specs.Streams.{Among, Fills, Holds, Offered, Takes, WhereTaken, some_then}
use Rattle.grid_json.proofs.Objects.{put_known}

-- a known name more
one_known : (names : List (List ℕ)) (k : List ℕ) (d : Data) (found : Members) → knows names k ≡ true
    → all_known names found ≡ true → all_known names (put k d found) ≡ true
one_known names k d found is known = put_known names k d found ∙ ap₂ (λ a b. a && b) is known

-- a member that was taken is among those that were found
pub among : {S : Type 0} (names : List (List ℕ)) (holds : S → Members → Type 0) (name : List ℕ) (depth : ℕ)
    (old new : List Token) (before after : S) → knows names name ≡ true → Takes holds name depth old new before after
    → Takes (Among names holds) name depth old new before after
among names holds name depth old new before after is (d, next, keeps) =
    (d, next, λ found held. (one_known names name d found is held.0, keeps found held.1))

-- no member was found, so no slot is filled
pub vacant : {A : Type 0} {read : Data → Result A Fault} {name : List ℕ} → Holds read name no_members None
vacant = record { holds = refl }

-- a member of a known name that was taken, where it was offered
pub taken_known : {S : Type 0} (names : List (List ℕ)) (holds : S → Members → Type 0) (name given : List ℕ)
    (depth : ℕ) (old new : List Token) (before after : S) (went : Offer)
    → knows names name ≡ true → bytes_eq name given ≡ true
    → WhereTaken went (Takes holds name depth old new before after × (length new < length old))
    → Offered names holds given depth old new before after went
taken_known names holds name given depth old new before after Taken known same (takes, shorter) =
    let is : name ≡ given = (bytes_eq-Decides name given).0 same in
    (ap (knows names) (sym is) ∙ known, rw (sym is) takes, shorter)
taken_known names holds name given depth old new before after Unknown known same takes = absurd takes
taken_known names holds name given depth old new before after Refused known same takes = tt

module _ {A : Type 0} (read : Data → Result A Fault) (name : List ℕ) where
  filled : (d : Data) (found : Members) (x : A) → read d ≡ Ok x → Holds read name (put name d found) (Some x)
  filled d found x is = record { holds = rw (get_member-put name d found, is) refl }

  -- a slot that was filled is a member that was taken, where all else keeps its slot
  taken : {S : Type 0} (holds : S → Members → Type 0) (depth : ℕ) (old new : List Token) (before after : S)
      (slot : Option A)
      → ((d : Data) (found : Members) → holds before found → Holds read name (put name d found) slot
      → holds after (put name d found))
      → Fills read depth old new slot → Takes holds name depth old new before after
  taken holds depth old new before after slot keeps (x, is, (d, next, ok)) =
      (d, next, λ found held. keeps d found held (rw is (filled d found x ok)))

  -- so it is where a member was taken
  pub taken_where : {S : Type 0} (holds : S → Members → Type 0) (depth : ℕ) (old new : List Token) (before after : S)
      (slot : Option A) (went : Offer)
      → ((d : Data) (found : Members) → holds before found → Holds read name (put name d found) slot
      → holds after (put name d found))
      → WhereTaken went (Fills read depth old new slot × (length new < length old))
      → WhereTaken went (Takes holds name depth old new before after × (length new < length old))
  taken_where holds depth old new before after slot Taken keeps (fills, shorter) =
      (taken holds depth old new before after slot keeps fills, shorter)
  taken_where holds depth old new before after slot Unknown keeps fills = absurd fills
  taken_where holds depth old new before after slot Refused keeps fills = tt

  -- so it is with a member that was offered
  pub offered : {S : Type 0} (names : List (List ℕ)) (holds : S → Members → Type 0) (given : List ℕ) (depth : ℕ)
      (old new : List Token) (before after : S) (slot : Option A) (went : Offer)
      → ((d : Data) (found : Members) → holds before found → Holds read name (put name d found) slot
      → holds after (put name d found))
      → knows names name ≡ true → bytes_eq name given ≡ true
      → WhereTaken went (Fills read depth old new slot × (length new < length old))
      → Offered names holds given depth old new before after went
  offered names holds given depth old new before after slot went keeps known same fills =
      taken_known names holds name given depth old new before after went known same
      (taken_where holds depth old new before after slot went keeps fills)

  no_value : (r : Result A Fault) → under name (some_of r) ≡ Ok None → ⊥
  no_value (Ok y) held = cc
  no_value (Err f) held = cc

  absent : (d : Option Data) → present_or None (λ v. some_of (read v)) name d ≡ Ok None → d ≡ None
  absent None held = refl
  absent (Some d) held = absurd (no_value (read d) held)

  -- a slot with nothing in it is a member that is absent
  missing : (found : Members) → Holds read name found None → get_member name found ≡ None
  missing found held = absent (get_member name found) held.holds

  was_read : (r : Result A Fault) (x : A) → under name (some_of r) ≡ Ok (Some x) → under name r ≡ Ok x
  was_read (Ok y) x held = cc
  was_read (Err f) x held = cc

  was_read_or : (r : Result A Fault) (otherwise : A) (slot : Option A) → under name (some_of r) ≡ Ok slot → under name r ≡ Ok (unwrap_or slot otherwise)
  was_read_or (Ok y) otherwise None held = cc
  was_read_or (Ok y) otherwise (Some x) held = cc
  was_read_or (Err f) otherwise slot held = cc

  found_one : (d : Option Data) (x : A) → present_or None (λ v. some_of (read v)) name d ≡ Ok (Some x) → present read name d ≡ Ok x
  found_one None x held = cc
  found_one (Some d) x held = was_read (read d) x held

  found_or : (otherwise : A) (d : Option Data) (slot : Option A) → present_or None (λ v. some_of (read v)) name d ≡ Ok slot → present_or otherwise read name d ≡ Ok (unwrap_or slot otherwise)
  found_or otherwise None None held = refl
  found_or otherwise None (Some x) held = cc
  found_or otherwise (Some d) slot held = was_read_or (read d) otherwise slot held

  -- a slot that is filled is the member that must be there
  pub member_is : (found : Members) (x : A) → Holds read name found (Some x) → member_at read name (object found) ≡ Ok x
  member_is found x held = found_one (get_member name found) x held.holds

  -- a slot, or what stands for a member that is absent
  pub member_or_is : (otherwise : A) (found : Members) (slot : Option A) → Holds read name found slot → member_or otherwise read name (object found) ≡ Ok (unwrap_or slot otherwise)
  member_or_is otherwise found slot held = found_or otherwise (get_member name found) slot held.holds

  read_then : {B : Type 0} (f : A → Result B Fault) (r : Result A Fault) (slot : Option A) (last : Option B) → under name (some_of r) ≡ Ok slot → some_then f slot ≡ Ok last → under name (some_of (r >>= f)) ≡ Ok last
  read_then f (Ok y) None last held is = cc
  read_then f (Ok y) (Some x) last held is =
      let same : x ≡ y = cc in
      ap (under name) (ap (λ z. some_of (f z)) (sym same) ∙ is)
  read_then f (Err e) slot last held is = cc

  found_then : {B : Type 0} (f : A → Result B Fault) (d : Option Data) (slot : Option A) (last : Option B) → present_or None (λ v. some_of (read v)) name d ≡ Ok slot → some_then f slot ≡ Ok last
      → present_or None (λ v. some_of (read v >>= f)) name d ≡ Ok last
  found_then f None None last held is = is
  found_then f None (Some x) last held is = cc
  found_then f (Some d) slot last held is = read_then f (read d) slot last held is

  -- what is made of a slot is what is made of a member that may be absent
  pub optional_then : {B : Type 0} (f : A → Result B Fault) (found : Members) (slot : Option A) (last : Option B) → Holds read name found slot → some_then f slot ≡ Ok last
      → optional_at (λ d. read d >>= f) name (object found) ≡ Ok last
  optional_then f found slot last held is = found_then f (get_member name found) slot last held.holds is

-- a slot with nothing in it is so however its member would be read
pub vacated : {A : Type 0} {read other : Data → Result A Fault} {name : List ℕ} {found : Members} {slot : Option A} → slot ≡ None → Holds read name found slot → Holds other name found slot
vacated {A} {read} {other} {name} {found} {slot} none held =
    let nothing : get_member name found ≡ None = absent read name (get_member name found) (held.holds ∙ ap Ok none) in
    record { holds = ap (present_or None (λ d. some_of (other d)) name) nothing ∙ ap Ok (sym none) }

-- a slot that came filled is the member that must be there
pub filled_is : {A : Type 0} {read : Data → Result A Fault} {name : List ℕ} {found : Members} {slot : Option A} {x : A}
    → Holds read name found slot → slot ≡ Some x → member_at read name (object found) ≡ Ok x
filled_is {A} {read} {name} {found} {slot} {x} held is = member_is read name found x (rw is at held)

-- a slot that came empty is a member that is absent
pub empty_is : {A : Type 0} {read : Data → Result A Fault} {name : List ℕ} {found : Members} {slot : Option A}
    → Holds read name found slot → slot ≡ None → get_member name found ≡ None
empty_is {A} {read} {name} {found} {slot} held is = missing read name found (rw is at held)
