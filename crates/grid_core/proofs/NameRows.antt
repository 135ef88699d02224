-- What is told of each name's rows, through the changes of the slots.
use Rattle.std.proofs.Common.{◌≡◌, refl, sym, ap, ◌∙◌, subst, ℕ, zero, suc, arith, Bool, true, false, cond, not, ◌||◌, List, [], ◌∷◌, map, Some}
use Rattle.std.specs.Prelude.{All, if◌then◌else◌, ◌==◌, unwrap_or, find, option_map}
use Rattle.std.specs.List.{list_any, list_all}
use Rattle.std.proofs.lemmas.Bool.{and_parts, false≢true, true≢false, eqb-true, eq-eqb}
use Rattle.grid_lemmas.proofs.Bools.{or_right}
use Rattle.grid_ids.specs.Name.{same_id, has_id, id_below}
use Rattle.grid_ids.proofs.Alike.{same_is, same_itself}
use Rattle.grid_states.specs.Rows.{Rows, no_rows}
use Rattle.grid_slots.specs.Variant.{Variant}
use Rattle.grid_slots.specs.declared.slots.Cloned.{Cloned}
use Rattle.grid_slots.specs.declared.slots.Cloned.TheVariants as clones
use Rattle.grid_slots.specs.Variants.{names, is_live, variant_of, slot_of, rows_of, has_slot, rows_at, with_rows, changed, all_changed, with_variant, without_variant, slots, numbers_differ}
use Rattle.grid_slots.specs.Names.{names_rise}
use Rattle.grid_slots.specs.Places.{variant}
use Rattle.grid_slots.specs.Answers.{IsClone}
use Rattle.grid_slots.proofs.Order.{same_back, above_differs}
use Rattle.grid_slots.proofs.RowChanges.{changed_none, names-changed, names-all_changed}
use Rattle.grid_slots.proofs.Tables.{has_slot-slots}
use Rattle.grid_slots.proofs.TableEdits.{none_slot}
use Rattle.grid_core.specs.Slotted.{Holds}
use Rattle.grid_core.proofs.LiveNames.{slot_live}

-- ---- the first variant, and the others

-- of a name that is the first variant's, and of another
pub rows_first : (name : List ℕ) (v : Variant) (vs : List Variant) → same_id name v.name ≡ true → rows_of (v ∷ vs) name ≡ v.rows
unfolding rows_of variant_of
rows_first name v vs e = rw e refl

rows_next : (name : List ℕ) (v : Variant) (vs : List Variant) → same_id name v.name ≡ false → rows_of (v ∷ vs) name ≡ rows_of vs name
unfolding rows_of variant_of
rows_next name v vs e = rw e refl

pub live_first : (name : List ℕ) (v : Variant) (vs : List Variant) → same_id name v.name ≡ true → is_live (v ∷ vs) name ≡ true
unfolding is_live names has_id
live_first name v vs e = rw e refl

pub live_next : (name : List ℕ) (v : Variant) (vs : List Variant) → same_id name v.name ≡ false → is_live (v ∷ vs) name ≡ is_live vs name
unfolding is_live names has_id
live_next name v vs e = rw e refl

pub none_live : (name : List ℕ) → is_live [] name ≡ false
unfolding is_live names has_id
none_live name = refl

pub slot_first : (name : List ℕ) (v : Variant) (vs : List Variant) (slot : ℕ) → same_id name v.name ≡ true → slot_of (v ∷ vs) name ≡ Some slot → v.slot ≡ slot
unfolding slot_of variant_of
slot_first name v vs slot e h = by (same_id name v.name) e h
  where
    by : (t : Bool) → t ≡ true → option_map (λ (u : Variant). u.slot) (cond t (Some v) (find (λ (u : Variant). same_id name u.name) vs)) ≡ Some slot → v.slot ≡ slot
    by true e h = cc
    by false e h = absurd (false≢true e)

pub slot_next : (name : List ℕ) (v : Variant) (vs : List Variant) → same_id name v.name ≡ false → slot_of (v ∷ vs) name ≡ slot_of vs name
unfolding slot_of variant_of
slot_next name v vs e = rw e refl

-- ---- slots

-- the slot of a name is some variant's
pub slot_there : (vs : List Variant) (name : List ℕ) (slot : ℕ) → slot_of vs name ≡ Some slot → has_slot vs slot ≡ true
unfolding has_slot
slot_there [] name slot h = absurd (false≢true (sym (none_live name) ∙ slot_live [] name slot h))
slot_there (v ∷ vs) name slot h = by (same_id name v.name) refl (slot_there vs name slot)
  where
    by : (t : Bool) → same_id name v.name ≡ t → (slot_of vs name ≡ Some slot → list_any (λ (u : Variant). u.slot == slot) vs ≡ true) → (v.slot == slot) || list_any (λ (u : Variant). u.slot == slot) vs ≡ true
    by true e again = ap (λ b. b || list_any (λ (u : Variant). u.slot == slot) vs) (eq-eqb v.slot slot (slot_first name v vs slot e h))
    by false e again = or_right (v.slot == slot) _ (again (sym (slot_next name v vs e) ∙ h))

-- the first variant's slot is no later one's
pub record Apart (v : Variant) (vs : List Variant) : Type 0 where
  pub fresh : has_slot vs v.slot ≡ false
  pub rest : numbers_differ (slots vs) ≡ true

pub apart : (v : Variant) (vs : List Variant) → numbers_differ (slots (v ∷ vs)) ≡ true → Apart v vs
unfolding slots numbers_differ
apart v vs h =
    let both = and_parts (not (list_any (λ m. m == v.slot) (map (λ (u : Variant). u.slot) vs))) (numbers_differ (map (λ (u : Variant). u.slot) vs)) h in
    record { fresh = has_slot-slots vs v.slot ∙ not_is _ both.0; rest = both.1 }
  where
    not_is : (t : Bool) → not t ≡ true → t ≡ false
    not_is true e = sym e
    not_is false e = refl

-- a slot that a later variant has is not the first one's
other_slot : (v : Variant) (vs : List Variant) (slot : ℕ) → has_slot vs v.slot ≡ false → has_slot vs slot ≡ true → (v.slot == slot) ≡ false
other_slot v vs slot fresh there = by (v.slot == slot) refl
  where
    by : (t : Bool) → (v.slot == slot) ≡ t → t ≡ false
    by true e = absurd (false≢true (sym fresh ∙ ap (has_slot vs) (eqb-true v.slot slot e) ∙ there))
    by false e = refl

-- the rows at a name's slot are the name's
pub rows_at-slot : (vs : List Variant) (name : List ℕ) (slot : ℕ) → numbers_differ (slots vs) ≡ true → slot_of vs name ≡ Some slot → rows_at vs slot ≡ rows_of vs name
unfolding rows_at
rows_at-slot [] name slot differ h = absurd (false≢true (sym (none_live name) ∙ slot_live [] name slot h))
rows_at-slot (v ∷ vs) name slot differ h = by (same_id name v.name) refl (rows_at-slot vs name slot)
  where
    two : Apart v vs
    two = apart v vs differ

    by : (t : Bool) → same_id name v.name ≡ t → (numbers_differ (slots vs) ≡ true → slot_of vs name ≡ Some slot → unwrap_or (option_map (λ (u : Variant). u.rows) (find (λ (u : Variant). u.slot == slot) vs)) no_rows ≡ rows_of vs name)
        → unwrap_or (option_map (λ (u : Variant). u.rows) (cond (v.slot == slot) (Some v) (find (λ (u : Variant). u.slot == slot) vs))) no_rows ≡ rows_of (v ∷ vs) name
    by true e again = rw (eq-eqb v.slot slot (slot_first name v vs slot e h), rows_first name v vs e) refl
    by false e again =
        let later : slot_of vs name ≡ Some slot = sym (slot_next name v vs e) ∙ h in
        rw (other_slot v vs slot two.fresh (slot_there vs name slot later), rows_next name v vs e) (again two.rest later)

-- ---- a change of the rows at one slot

pub with_rows-name : (t : Bool) (v : Variant) (rows : Rows) → (cond t (with_rows v rows) v).name ≡ v.name
unfolding with_rows
with_rows-name true v rows = refl
with_rows-name false v rows = refl

with_rows-rows : (t : Bool) (v : Variant) (rows : Rows) → t ≡ true → (cond t (with_rows v rows) v).rows ≡ rows
unfolding with_rows
with_rows-rows true v rows e = refl
with_rows-rows false v rows e = absurd (false≢true e)

-- the name that has the slot
changed-own : (change : Rows → Rows) (vs : List Variant) (name : List ℕ) (slot : ℕ) → slot_of vs name ≡ Some slot → rows_of (changed (λ v. v.slot == slot) change vs) name ≡ change (rows_of vs name)
unfolding changed
changed-own change [] name slot h = absurd (false≢true (sym (none_live name) ∙ slot_live [] name slot h))
changed-own change (v ∷ vs) name slot h = by (same_id name v.name) refl (changed-own change vs name slot)
  where
    rest : List Variant
    rest = map (λ (u : Variant). if u.slot == slot then with_rows u (change u.rows) else u) vs

    now : Variant
    now = if v.slot == slot then with_rows v (change v.rows) else v

    named : same_id name now.name ≡ same_id name v.name
    named = ap (same_id name) (with_rows-name (v.slot == slot) v (change v.rows))

    by : (t : Bool) → same_id name v.name ≡ t → (slot_of vs name ≡ Some slot → rows_of rest name ≡ change (rows_of vs name)) → rows_of (now ∷ rest) name ≡ change (rows_of (v ∷ vs) name)
    by true e again = rows_first name now rest (named ∙ e) ∙ with_rows-rows (v.slot == slot) v (change v.rows) (eq-eqb v.slot slot (slot_first name v vs slot e h)) ∙ ap change (sym (rows_first name v vs e))
    by false e again = rows_next name now rest (named ∙ e) ∙ again (sym (slot_next name v vs e) ∙ h) ∙ ap change (sym (rows_next name v vs e))

with_rows-not : (t : Bool) (v : Variant) (rows : Rows) → t ≡ false → cond t (with_rows v rows) v ≡ v
with_rows-not true v rows e = absurd (true≢false e)
with_rows-not false v rows e = refl

-- another name
changed-other : (change : Rows → Rows) (vs : List Variant) (name other : List ℕ) (slot : ℕ) → numbers_differ (slots vs) ≡ true → slot_of vs name ≡ Some slot → same_id other name ≡ false
    → rows_of (changed (λ v. v.slot == slot) change vs) other ≡ rows_of vs other
unfolding changed
changed-other change [] name other slot differ h apart_names = absurd (false≢true (sym (none_live name) ∙ slot_live [] name slot h))
changed-other change (v ∷ vs) name other slot differ h apart_names = by (same_id name v.name) refl (same_id other v.name) refl (changed-other change vs name other slot)
  where
    two : Apart v vs
    two = apart v vs differ

    rest : List Variant
    rest = map (λ (u : Variant). if u.slot == slot then with_rows u (change u.rows) else u) vs

    now : Variant
    now = if v.slot == slot then with_rows v (change v.rows) else v

    named : same_id other now.name ≡ same_id other v.name
    named = ap (same_id other) (with_rows-name (v.slot == slot) v (change v.rows))

    later : same_id name v.name ≡ false → slot_of vs name ≡ Some slot
    later e = sym (slot_next name v vs e) ∙ h

    -- both names are the first variant's: none are
    clash : same_id name v.name ≡ true → same_id other v.name ≡ true → true ≡ false
    clash e f = sym f ∙ ap (same_id other) (sym (same_is name v.name e)) ∙ apart_names

    by : (s : Bool) → same_id name v.name ≡ s → (t : Bool) → same_id other v.name ≡ t
        → (numbers_differ (slots vs) ≡ true → slot_of vs name ≡ Some slot → same_id other name ≡ false → rows_of rest other ≡ rows_of vs other) → rows_of (now ∷ rest) other ≡ rows_of (v ∷ vs) other
    by s e false f again = rows_next other now rest (named ∙ f) ∙ tail s e again ∙ sym (rows_next other v vs f)
      where
        tail : (s : Bool) → same_id name v.name ≡ s → (numbers_differ (slots vs) ≡ true → slot_of vs name ≡ Some slot → same_id other name ≡ false → rows_of rest other ≡ rows_of vs other) → rows_of rest other ≡ rows_of vs other
        tail true e again = ap (λ z. rows_of z other) (changed_none (λ u. u.slot == slot) change vs (none_slot vs slot (ap (has_slot vs) (sym (slot_first name v vs slot e h)) ∙ two.fresh)))
        tail false e again = again two.rest (later e) apart_names
    by true e true f again = absurd (true≢false (clash e f))
    by false e true f again =
        let same : now ≡ v = with_rows-not (v.slot == slot) v (change v.rows) (other_slot v vs slot two.fresh (slot_there vs name slot (later e))) in
        rows_first other now rest (named ∙ f) ∙ ap (λ (z : Variant). z.rows) same ∙ sym (rows_first other v vs f)

-- a change at the slot of a name changes what is told of it, and of no other
pub holds_changed : (told next : List ℕ → Rows) (change : Rows → Rows) (vs : List Variant) (name : List ℕ) (slot : ℕ) → numbers_differ (slots vs) ≡ true → slot_of vs name ≡ Some slot
    → Holds told vs → next name ≡ change (told name) → ((u : List ℕ) → same_id u name ≡ false → next u ≡ told u) → Holds next (changed (λ v. v.slot == slot) change vs)
unfolding is_live
holds_changed told next change vs name slot differ h holds own others u alive = by (same_id u name) refl
  where
    was : has_id (names vs) u ≡ true
    was = ap (λ ns. has_id ns u) (sym (names-changed (λ v. v.slot == slot) change vs)) ∙ alive

    by : (t : Bool) → same_id u name ≡ t → rows_of (changed (λ v. v.slot == slot) change vs) u ≡ next u
    by true e =
        let same : u ≡ name = same_is u name e in
        subst (λ (z : List ℕ). rows_of (changed (λ v. v.slot == slot) change vs) z ≡ next z) (sym same) (changed-own change vs name slot h ∙ ap change (holds name (subst (λ (z : List ℕ). has_id (names vs) z ≡ true) same was)) ∙ sym own)
    by false e = changed-other change vs name u slot differ h e ∙ holds u was ∙ sym (others u e)

-- ---- a change of the rows of all

all_changed-rows : (change : Rows → Rows) (vs : List Variant) (name : List ℕ) → is_live vs name ≡ true → rows_of (all_changed change vs) name ≡ change (rows_of vs name)
unfolding all_changed with_rows
all_changed-rows change [] name h = absurd (false≢true (sym (none_live name) ∙ h))
all_changed-rows change (v ∷ vs) name h = by (same_id name v.name) refl (all_changed-rows change vs name)
  where
    rest : List Variant
    rest = map (λ (u : Variant). record u { rows = change u.rows }) vs

    now : Variant
    now = record v { rows = change v.rows }

    by : (t : Bool) → same_id name v.name ≡ t → (is_live vs name ≡ true → rows_of rest name ≡ change (rows_of vs name)) → rows_of (now ∷ rest) name ≡ change (rows_of (v ∷ vs) name)
    by true e again = rows_first name now rest e ∙ ap change (sym (rows_first name v vs e))
    by false e again = rows_next name now rest e ∙ again (sym (live_next name v vs e) ∙ h) ∙ ap change (sym (rows_next name v vs e))

-- a change of all changes what is told of each live name
pub holds_all : (told next : List ℕ → Rows) (change : Rows → Rows) (vs : List Variant) → Holds told vs → ((u : List ℕ) → is_live vs u ≡ true → next u ≡ change (told u)) → Holds next (all_changed change vs)
unfolding is_live
holds_all told next change vs holds each u alive =
    let was : has_id (names vs) u ≡ true = ap (λ ns. has_id ns u) (sym (names-all_changed change vs)) ∙ alive in
    all_changed-rows change vs u was ∙ ap change (holds u was) ∙ sym (each u was)

-- what is told of the live names alone
pub holds_alike : (told next : List ℕ → Rows) (vs : List Variant) → Holds told vs → ((u : List ℕ) → is_live vs u ≡ true → next u ≡ told u) → Holds next vs
holds_alike told next vs holds same u alive = holds u alive ∙ sym (same u alive)

-- ---- one variant less

pub without-next : (name : List ℕ) (v : Variant) (vs : List Variant) (t : Bool) → same_id name v.name ≡ t → without_variant name (v ∷ vs) ≡ (if t then without_variant name vs else v ∷ without_variant name vs)
unfolding without_variant
without-next name v vs true e = rw e refl
without-next name v vs false e = rw e refl

pub without-none : (name : List ℕ) → without_variant name [] ≡ []
unfolding without_variant
without-none name = refl

-- the name that is gone is not live
pub never : (name : List ℕ) (vs : List Variant) → is_live (without_variant name vs) name ≡ false
never name [] = ap (λ z. is_live z name) (without-none name) ∙ none_live name
never name (v ∷ vs) = by (same_id name v.name) refl (never name vs)
  where
    by : (t : Bool) → same_id name v.name ≡ t → is_live (without_variant name vs) name ≡ false → is_live (without_variant name (v ∷ vs)) name ≡ false
    by true e again = ap (λ z. is_live z name) (without-next name v vs true e) ∙ again
    by false e again = ap (λ z. is_live z name) (without-next name v vs false e) ∙ live_next name v (without_variant name vs) e ∙ again

-- a name that is left was live, and keeps its rows
pub record IsLeft (name : List ℕ) (vs : List Variant) (u : List ℕ) : Type 0 where
  pub was : is_live vs u ≡ true
  pub rows : rows_of (without_variant name vs) u ≡ rows_of vs u

left-on : (name : List ℕ) (v : Variant) (vs : List Variant) (u : List ℕ) → same_id name v.name ≡ false → same_id u v.name ≡ false → IsLeft name vs u → IsLeft name (v ∷ vs) u
left-on name v vs u e f l = record {
  was = live_next u v vs f ∙ l.was;
  rows = ap (λ z. rows_of z u) (without-next name v vs false e) ∙ rows_next u v (without_variant name vs) f ∙ l.rows ∙ sym (rows_next u v vs f);
}

-- the names that are left
pub live_without : (name : List ℕ) (vs : List Variant) (u : List ℕ) → is_live (without_variant name vs) u ≡ true → IsLeft name vs u
live_without name [] u h = absurd (false≢true (sym (none_live u) ∙ ap (λ z. is_live z u) (sym (without-none name)) ∙ h))
live_without name (v ∷ vs) u h = by (same_id name v.name) refl (same_id u v.name) refl (live_without name vs u)
  where
    by : (s : Bool) → same_id name v.name ≡ s → (t : Bool) → same_id u v.name ≡ t → (is_live (without_variant name vs) u ≡ true → IsLeft name vs u) → IsLeft name (v ∷ vs) u
    by false e true f again = record {
      was = live_first u v vs f;
      rows = ap (λ z. rows_of z u) (without-next name v vs false e) ∙ rows_first u v (without_variant name vs) f ∙ sym (rows_first u v vs f);
    }
    by false e false f again = left-on name v vs u e f (again (sym (live_next u v (without_variant name vs) f) ∙ ap (λ z. is_live z u) (sym (without-next name v vs false e)) ∙ h))
    by true e t f again = gone t f (again (ap (λ z. is_live z u) (sym (without-next name v vs true e)) ∙ h))
      where
        -- u is not the name that is gone, since it is left
        gone : (t : Bool) → same_id u v.name ≡ t → IsLeft name vs u → IsLeft name (v ∷ vs) u
        gone true f l = absurd (false≢true (sym (never name vs) ∙ subst (λ (z : List ℕ). is_live (without_variant name vs) z ≡ true) (same_is u v.name f ∙ sym (same_is name v.name e)) (ap (λ z. is_live z u) (sym (without-next name v vs true e)) ∙ h)))
        gone false f l = record {
          was = live_next u v vs f ∙ l.was;
          rows = ap (λ z. rows_of z u) (without-next name v vs true e) ∙ l.rows ∙ sym (rows_next u v vs f);
        }

pub holds_removed : (told next : List ℕ → Rows) (vs : List Variant) (name : List ℕ) → Holds told vs → ((u : List ℕ) → next u ≡ told u) → Holds next (without_variant name vs)
holds_removed told next vs name holds same u alive = let l = live_without name vs u alive in l.rows ∙ holds u l.was ∙ sym (same u)

-- ---- a clone

pub with-next : (w v : Variant) (vs : List Variant) → with_variant w (v ∷ vs) ≡ (if id_below w.name v.name then w ∷ v ∷ vs else v ∷ with_variant w vs)
unfolding with_variant
with-next w v vs = refl

pub with-alone : (w : Variant) → with_variant w [] ≡ w ∷ []
unfolding with_variant
with-alone w = refl

-- the name of the new variant, where it was not live
with-own : (w : Variant) (vs : List Variant) → is_live vs w.name ≡ false → rows_of (with_variant w vs) w.name ≡ w.rows
with-own w [] h = ap (λ z. rows_of z w.name) (with-alone w) ∙ rows_first w.name w [] (same_itself w.name)
with-own w (v ∷ vs) h = ap (λ z. rows_of z w.name) (with-next w v vs) ∙ by (id_below w.name v.name) (same_id w.name v.name) refl (with-own w vs)
  where
    by : (b t : Bool) → same_id w.name v.name ≡ t → (is_live vs w.name ≡ false → rows_of (with_variant w vs) w.name ≡ w.rows) → rows_of (if b then w ∷ v ∷ vs else v ∷ with_variant w vs) w.name ≡ w.rows
    by true t e again = rows_first w.name w (v ∷ vs) (same_itself w.name)
    by false true e again = absurd (true≢false (sym (live_first w.name v vs e) ∙ h))
    by false false e again = rows_next w.name v (with_variant w vs) e ∙ again (sym (live_next w.name v vs e) ∙ h)

-- another name
with-other : (w : Variant) (vs : List Variant) (u : List ℕ) → same_id u w.name ≡ false → rows_of (with_variant w vs) u ≡ rows_of vs u
with-other w [] u apart_names = ap (λ z. rows_of z u) (with-alone w) ∙ rows_next u w [] apart_names
with-other w (v ∷ vs) u apart_names = ap (λ z. rows_of z u) (with-next w v vs) ∙ by (id_below w.name v.name) (same_id u v.name) refl (with-other w vs u apart_names)
  where
    by : (b t : Bool) → same_id u v.name ≡ t → rows_of (with_variant w vs) u ≡ rows_of vs u → rows_of (if b then w ∷ v ∷ vs else v ∷ with_variant w vs) u ≡ rows_of (v ∷ vs) u
    by true t e again = rows_next u w (v ∷ vs) apart_names
    by false true e again = rows_first u v (with_variant w vs) e ∙ sym (rows_first u v vs e)
    by false false e again = rows_next u v (with_variant w vs) e ∙ again ∙ sym (rows_next u v vs e)

pub with-live : (w : Variant) (vs : List Variant) (u : List ℕ) → same_id u w.name ≡ false → is_live (with_variant w vs) u ≡ is_live vs u
with-live w [] u apart_names = ap (λ z. is_live z u) (with-alone w) ∙ live_next u w [] apart_names
with-live w (v ∷ vs) u apart_names = ap (λ z. is_live z u) (with-next w v vs) ∙ by (id_below w.name v.name) (same_id u v.name) refl (with-live w vs u apart_names)
  where
    by : (b t : Bool) → same_id u v.name ≡ t → is_live (with_variant w vs) u ≡ is_live vs u → is_live (if b then w ∷ v ∷ vs else v ∷ with_variant w vs) u ≡ is_live (v ∷ vs) u
    by true t e again = live_next u w (v ∷ vs) apart_names
    by false true e again = live_first u v (with_variant w vs) e ∙ sym (live_first u v vs e)
    by false false e again = live_next u v (with_variant w vs) e ∙ again ∙ sym (live_next u v vs e)

-- the rows of one name replaced
named-own : (to : List ℕ) (rows : Rows) (vs : List Variant) → is_live vs to ≡ true → rows_of (changed (λ v. same_id to v.name) (λ _. rows) vs) to ≡ rows
unfolding changed
named-own to rows [] h = absurd (false≢true (sym (none_live to) ∙ h))
named-own to rows (v ∷ vs) h = by (same_id to v.name) refl (named-own to rows vs)
  where
    rest : List Variant
    rest = map (λ (u : Variant). if same_id to u.name then with_rows u rows else u) vs

    now : Variant
    now = if same_id to v.name then with_rows v rows else v

    named : same_id to now.name ≡ same_id to v.name
    named = ap (same_id to) (with_rows-name (same_id to v.name) v rows)

    by : (t : Bool) → same_id to v.name ≡ t → (is_live vs to ≡ true → rows_of rest to ≡ rows) → rows_of (now ∷ rest) to ≡ rows
    by true e again = rows_first to now rest (named ∙ e) ∙ with_rows-rows (same_id to v.name) v rows e
    by false e again = rows_next to now rest (named ∙ e) ∙ again (sym (live_next to v vs e) ∙ h)

named-other : (to : List ℕ) (rows : Rows) (vs : List Variant) (u : List ℕ) → same_id u to ≡ false → rows_of (changed (λ v. same_id to v.name) (λ _. rows) vs) u ≡ rows_of vs u
unfolding changed
named-other to rows [] u apart_names = refl
named-other to rows (v ∷ vs) u apart_names = by (same_id u v.name) refl (named-other to rows vs u apart_names)
  where
    rest : List Variant
    rest = map (λ (x : Variant). if same_id to x.name then with_rows x rows else x) vs

    now : Variant
    now = if same_id to v.name then with_rows v rows else v

    named : same_id u now.name ≡ same_id u v.name
    named = ap (same_id u) (with_rows-name (same_id to v.name) v rows)

    by : (t : Bool) → same_id u v.name ≡ t → rows_of rest u ≡ rows_of vs u → rows_of (now ∷ rest) u ≡ rows_of (v ∷ vs) u
    by true e again =
        let not_it : same_id to v.name ≡ false = ap (same_id to) (sym (same_is u v.name e)) ∙ same_back u to false apart_names in
        rows_first u now rest (named ∙ e) ∙ ap (λ (z : Variant). z.rows) (with_rows-not (same_id to v.name) v rows not_it) ∙ sym (rows_first u v vs e)
    by false e again = rows_next u now rest (named ∙ e) ∙ again ∙ sym (rows_next u v vs e)

-- a clone tells of its target what was told of its source, and of the other names what was told
pub holds_cloned : (told next : List ℕ → Rows) (old new : List Variant) (from to : List ℕ) (cloned : Cloned) → IsClone old new from to cloned → is_live old from ≡ true
    → Holds told old → next to ≡ told from → ((u : List ℕ) → same_id u to ≡ false → next u ≡ told u) → Holds next new
unfolding is_live
holds_cloned told next old new from to (clones.Created slot) (fresh, free, is) source holds own others u alive = by (same_id u to) refl
  where
    made : Variant
    made = variant to slot (rows_of old from)

    by : (t : Bool) → same_id u to ≡ t → rows_of new u ≡ next u
    by true e =
        let same : u ≡ to = same_is u to e in
        subst (λ (z : List ℕ). rows_of new z ≡ next z) (sym same) (ap (λ z. rows_of z to) is ∙ with-own made old fresh ∙ holds from source ∙ sym own)
    by false e =
        let was : has_id (names old) u ≡ true = sym (with-live made old u e) ∙ ap (λ z. has_id (names z) u) (sym is) ∙ alive in
        ap (λ z. rows_of z u) is ∙ with-other made old u e ∙ holds u was ∙ sym (others u e)
holds_cloned told next old new from to (clones.Overwritten slot) (found, is) source holds own others u alive = by (same_id u to) refl
  where
    was : has_id (names old) u ≡ true
    was = ap (λ ns. has_id ns u) (sym (names-changed (λ v. same_id to v.name) (λ _. rows_of old from) old)) ∙ ap (λ z. has_id (names z) u) (sym is) ∙ alive

    by : (t : Bool) → same_id u to ≡ t → rows_of new u ≡ next u
    by true e =
        let same : u ≡ to = same_is u to e in
        subst (λ (z : List ℕ). rows_of new z ≡ next z) (sym same) (ap (λ z. rows_of z to) is ∙ named-own to (rows_of old from) old (slot_live old to slot found) ∙ holds from source ∙ sym own)
    by false e = ap (λ z. rows_of z u) is ∙ named-other to (rows_of old from) old u e ∙ holds u was ∙ sym (others u e)

-- ---- each variant, by its place

passes_of : (p : List ℕ → Bool) (ns : List (List ℕ)) (name : List ℕ) → list_all p ns ≡ true → has_id ns name ≡ true → p name ≡ true
unfolding has_id
passes_of p [] name all h = absurd (false≢true h)
passes_of p (n ∷ ns) name all h = let both = and_parts (p n) (list_all p ns) all in by (same_id name n) refl h both.0 (passes_of p ns name both.1)
  where
    by : (t : Bool) → same_id name n ≡ t → t || list_any (same_id name) ns ≡ true → p n ≡ true → (list_any (same_id name) ns ≡ true → p name ≡ true) → p name ≡ true
    by true e h here again = ap p (same_is name n e) ∙ here
    by false e h here again = again h

pub rises_on : (v : Variant) (vs : List Variant) → names_rise (names (v ∷ vs)) ≡ true → (list_all (id_below v.name) (names vs) ≡ true) × (names_rise (names vs) ≡ true)
unfolding names names_rise
rises_on v vs h = and_parts (list_all (id_below v.name) (map (λ (u : Variant). u.name) vs)) (names_rise (map (λ (u : Variant). u.name) vs)) h

live_later : (v : Variant) (vs : List Variant) (name : List ℕ) → is_live vs name ≡ true → is_live (v ∷ vs) name ≡ true
live_later v vs name h = by (same_id name v.name) refl
  where
    by : (t : Bool) → same_id name v.name ≡ t → is_live (v ∷ vs) name ≡ true
    by true e = live_first name v vs e
    by false e = live_next name v vs e ∙ h

live_names : (vs : List Variant) (name : List ℕ) → is_live vs name ≡ true → has_id (names vs) name ≡ true
unfolding is_live
live_names vs name h = h

-- what is so of the rows of each live name is so of each variant's rows
pub each_variant : (P : Rows → Type 0) (vs : List Variant) → names_rise (names vs) ≡ true → ((name : List ℕ) → is_live vs name ≡ true → P (rows_of vs name)) → All (λ v. P v.rows) vs
each_variant P [] rise each k d below = absurd (omega arith)
each_variant P (v ∷ vs) rise each zero d below = subst P (rows_first v.name v vs (same_itself v.name)) (each v.name (live_first v.name v vs (same_itself v.name)))
each_variant P (v ∷ vs) rise each (suc k) d below =
    let parts = rises_on v vs rise in
    each_variant P vs parts.1 (λ name alive. subst P (rows_next name v vs (above_differs v.name name (passes_of (id_below v.name) (names vs) name parts.0 (live_names vs name alive)))) (each name (live_later v vs name alive))) k d (omega (arith, below))

-- and where rows are told of each live name
pub each_held : (P : Rows → Type 0) (told : List ℕ → Rows) (vs : List Variant) → names_rise (names vs) ≡ true → Holds told vs → ((name : List ℕ) → is_live vs name ≡ true → P (told name)) → All (λ v. P v.rows) vs
each_held P told vs rise holds each = each_variant P vs rise (λ name alive. subst P (sym (holds name alive)) (each name alive))
