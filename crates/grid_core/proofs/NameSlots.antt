-- The slots that names have after a history, and those of the variants.
use Rattle.std.proofs.Common.{◌≡◌, refl, sym, ap, ◌∙◌, subst, ℕ, zero, suc, ◌+◌, ◌<◌, ◌≤◌, arith, Bool, true, false, not, ◌||◌, List, [], ◌∷◌, Option, Some, None, inl, inr}
use Rattle.std.specs.Prelude.{find, ◌==◌, if◌then◌else◌}
use Rattle.std.specs.List.{list_any, list_all, cons_option, filter_map, range_with_len}
use Rattle.std.proofs.lemmas.Bool.{and_parts, true≢false, cases_lt}
use Rattle.grid_ids.specs.Name.{same_id, has_id, id_below}
use Rattle.grid_ids.proofs.Alike.{same_is, same_itself}
use Rattle.grid_slots.specs.Variant.{Variant}
use Rattle.grid_slots.specs.declared.slots.Cloned.{Cloned}
use Rattle.grid_slots.specs.declared.slots.Cloned.TheVariants as clones
use Rattle.grid_slots.specs.Names.{initial_state, names_rise}
use Rattle.grid_slots.specs.Variants.{names, is_live as has_name, slot_of, rows_of, slots, numbers_differ, without_variant, IsFreeSlot}
use Rattle.grid_slots.specs.Places.{variant}
use Rattle.grid_slots.specs.Answers.{IsClone}
use Rattle.grid_slots.proofs.Order.{above_differs}
use Rattle.grid_slots.proofs.RowChanges.{names-changed}
use Rattle.grid_slots.proofs.Tables.{has_slot-slots}
use Rattle.grid_core.specs.Slotted.{target_slot}
use Rattle.grid_core.specs.History.{Command, live, is_live, least_free, slot_in}
use Rattle.grid_core.proofs.LiveNames.{slot_live}
use Rattle.grid_core.proofs.NameRows.{slot_next, none_live, live_next, live_without, with-live, rises_on}
use Rattle.grid_core.proofs.ByNumber.{first_slot, slot-changed, slot-without, with-own_slot, with-other_slot}

-- ---- the least number that is free

-- the first number of a row that passes
find_least : (p : ℕ → Bool) (a n s : ℕ) → a ≤ s → s < a + n → p s ≡ true → ((k : ℕ) → k < s → p k ≡ false) → find p (range_with_len a n) ≡ Some s
find_least p a zero s low high passes fails = absurd (omega arith)
find_least p a (suc n) s low high passes fails =
    elim (cases_lt a s) [
      | inl lt ↦ rw (fails a lt) (find_least p (a + 1) n s (omega (arith, lt)) (omega (arith, high)) passes fails)
      | inr ge ↦ let same : a ≡ s = omega (arith, low, ge) in rw (ap p same ∙ passes) (ap (λ (z : ℕ). Some z) same)
    ]

-- the least slot that no variant has
free_least : (vs : List Variant) (slot : ℕ) → IsFreeSlot vs slot → slot < 64 → least_free (slots vs) ≡ Some slot
unfolding least_free
free_least vs slot free below =
    find_least (λ (s : ℕ). not (list_any (λ (other : ℕ). other == s) (slots vs))) 0 64 slot (omega arith) (omega (arith, below)) (ap not (sym (has_slot-slots vs slot) ∙ free.free))
    (λ s lt. ap not (sym (has_slot-slots vs s) ∙ free.least s lt))

-- ---- the slots of the live names

-- what two tests give of items of one kind
filter_map-alike : {X Y : Type 0} (p : X → Bool) (f g : X → Option Y) (xs : List X) → list_all p xs ≡ true → ((x : X) → p x ≡ true → f x ≡ g x) → filter_map f xs ≡ filter_map g xs
filter_map-alike p f g [] all same = refl
filter_map-alike p f g (x ∷ xs) all same =
    let both = and_parts (p x) (list_all p xs) all in ap (λ o. cons_option o (filter_map f xs)) (same x both.0) ∙ ap (cons_option (g x)) (filter_map-alike p f g xs both.1 same)

filter_map-same : {X Y : Type 0} (f g : X → Option Y) (xs : List X) → ((x : X) → f x ≡ g x) → filter_map f xs ≡ filter_map g xs
filter_map-same f g [] same = refl
filter_map-same f g (x ∷ xs) same = ap (λ o. cons_option o (filter_map f xs)) (same x) ∙ ap (cons_option (g x)) (filter_map-same f g xs same)

own_slots : (vs : List Variant) → names_rise (names vs) ≡ true → filter_map (slot_of vs) (names vs) ≡ slots vs
unfolding names slots
own_slots [] rise = refl
own_slots (v ∷ vs) rise =
    let parts = rises_on v vs rise in
    ap (λ o. cons_option o (filter_map (slot_of (v ∷ vs)) (names vs))) (first_slot v.name v vs (same_itself v.name))
    ∙ ap (cons_option (Some v.slot)) (filter_map-alike (id_below v.name) (slot_of (v ∷ vs)) (slot_of vs) (names vs) parts.0 (λ name below. slot_next name v vs (above_differs v.name name below)) ∙ own_slots vs parts.1)

-- each variant has the slot of its name after these steps
abbrev pub AreSeated : List Command → List Variant → Type 0
AreSeated steps variants = (name : List ℕ) → slot_of variants name ≡ slot_in steps name

-- a number that is the least free one by the slots is so by the history
free_seat : (before : List Command) (vs : List Variant) (slot : ℕ) → names_rise (names vs) ≡ true → names vs ≡ live before → AreSeated before vs → IsFreeSlot vs slot → slot < 64
    → least_free (filter_map (slot_in before) (live before)) ≡ Some slot
free_seat before vs slot rise named seated free below =
    ap least_free (sym (filter_map-same (slot_of vs) (slot_in before) (live before) seated) ∙ ap (filter_map (slot_of vs)) (sym named) ∙ own_slots vs rise) ∙ free_least vs slot free below

-- ---- a step

-- a name that is not live has none
unseated_first : (name : List ℕ) → is_live [] name ≡ false → slot_in [] name ≡ None
unfolding slot_in is_live live has_id
unseated_first name gone = by (same_id name initial_state) gone
  where
    by : (t : Bool) → t || false ≡ false → ◌≡◌ {A = Option ℕ} (if t then Some 0 else None) None
    by true e = absurd (true≢false e)
    by false e = refl

pub unseated : (steps : List Command) (name : List ℕ) → is_live steps name ≡ false → slot_in steps name ≡ None
unfolding slot_in
unseated [] name gone = unseated_first name gone
unseated (step ∷ before) name gone = rw gone refl

-- a name that stays live keeps its own
seat_kept : (before : List Command) (step : Command) (name : List ℕ) → is_live (step ∷ before) name ≡ true → is_live before name ≡ true → slot_in (step ∷ before) name ≡ slot_in before name
unfolding slot_in
seat_kept before step name now was = rw (now, was) refl

-- and so does one that is live neither before nor after
seat_stays : (before : List Command) (step : Command) (name : List ℕ) → is_live (step ∷ before) name ≡ is_live before name → slot_in (step ∷ before) name ≡ slot_in before name
seat_stays before step name same = by (is_live before name) refl
  where
    by : (t : Bool) → is_live before name ≡ t → slot_in (step ∷ before) name ≡ slot_in before name
    by true e = seat_kept before step name (same ∙ e) e
    by false e = unseated (step ∷ before) name (same ∙ e) ∙ sym (unseated before name e)

-- a new name
seat_new : (before : List Command) (step : Command) (name : List ℕ) → is_live (step ∷ before) name ≡ true → is_live before name ≡ false → slot_in (step ∷ before) name ≡ least_free (filter_map (slot_in before) (live before))
unfolding slot_in
seat_new before step name now was = rw (now, was) refl

-- names and slots stay
pub seated_still : (before : List Command) (step : Command) (vs now : List Variant) → live (step ∷ before) ≡ live before → ((u : List ℕ) → slot_of now u ≡ slot_of vs u) → AreSeated before vs → AreSeated (step ∷ before) now
unfolding is_live
seated_still before step vs now same slots_same seated u = slots_same u ∙ seated u ∙ sym (seat_stays before step u (ap (λ ns. has_id ns u) same))

-- live by the slots and by the history
live_both : (steps : List Command) (vs : List Variant) (name : List ℕ) → names vs ≡ live steps → is_live steps name ≡ has_name vs name
unfolding is_live has_name
live_both steps vs name named = ap (λ ns. has_id ns name) (sym named)

pub seated_cloned : (before : List Command) (step : Command) (old new : List Variant) (from to : List ℕ) (cloned : Cloned) → IsClone old new from to cloned → names_rise (names old) ≡ true → target_slot cloned < 64
    → names old ≡ live before → names new ≡ live (step ∷ before) → AreSeated before old → AreSeated (step ∷ before) new
unfolding target_slot
seated_cloned before step old new from to (clones.Created slot) (fresh, free, is) rise below was now seated u = by (same_id u to) refl
  where
    made : Variant
    made = variant to slot (rows_of old from)

    own : slot_of new to ≡ Some slot
    own = ap (λ z. slot_of z to) is ∙ with-own_slot made old fresh

    target : slot_of new to ≡ slot_in (step ∷ before) to
    target =
        own ∙ sym (free_seat before old slot rise was seated free below)
        ∙ sym (seat_new before step to (live_both (step ∷ before) new to now ∙ slot_live new to slot own) (live_both before old to was ∙ fresh))

    by : (t : Bool) → same_id u to ≡ t → slot_of new u ≡ slot_in (step ∷ before) u
    by true e = subst (λ (z : List ℕ). slot_of new z ≡ slot_in (step ∷ before) z) (sym (same_is u to e)) target
    by false e =
        ap (λ z. slot_of z u) is ∙ with-other_slot made old u e ∙ seated u
        ∙ sym (seat_stays before step u (live_both (step ∷ before) new u now ∙ ap (λ z. has_name z u) is ∙ with-live made old u e ∙ sym (live_both before old u was)))
seated_cloned before step old new from to (clones.Overwritten slot) (found, is) rise below was now seated u =
    let test : Variant → Bool = λ v. same_id to v.name in
    let names_stay : names new ≡ names old = ap names is ∙ names-changed test (λ _. rows_of old from) old in
    seated_still before step old new (sym now ∙ names_stay ∙ was) (λ n. ap (λ z. slot_of z n) is ∙ slot-changed test (λ _. rows_of old from) old n) seated u

-- no slot where the name is not live
slot_none : (vs : List Variant) (name : List ℕ) → has_name vs name ≡ false → slot_of vs name ≡ None
slot_none vs name gone = by (slot_of vs name) refl
  where
    by : (o : Option ℕ) → slot_of vs name ≡ o → o ≡ None
    by None e = refl
    by (Some slot) e = absurd (true≢false (sym (slot_live vs name slot e) ∙ gone))

pub seated_removed : (before : List Command) (step : Command) (name : List ℕ) (vs : List Variant) → numbers_differ (slots vs) ≡ true → names vs ≡ live before → names (without_variant name vs) ≡ live (step ∷ before)
    → AreSeated before vs → AreSeated (step ∷ before) (without_variant name vs)
seated_removed before step name vs differ was now seated u = by (has_name (without_variant name vs) u) refl
  where
    by : (t : Bool) → has_name (without_variant name vs) u ≡ t → slot_of (without_variant name vs) u ≡ slot_in (step ∷ before) u
    by true e =
        let alive : is_live (step ∷ before) u ≡ true = live_both (step ∷ before) (without_variant name vs) u now ∙ e in
        let before_too : is_live before u ≡ true = live_both before vs u was ∙ (live_without name vs u e).was in
        slot-without name vs u 0 differ e ∙ seated u ∙ sym (seat_stays before step u (alive ∙ sym before_too))
    by false e = slot_none (without_variant name vs) u e ∙ sym (unseated (step ∷ before) u (live_both (step ∷ before) (without_variant name vs) u now ∙ e))

-- at first the initial variant alone
pub seated_first : (v : Variant) → v.name ≡ initial_state → v.slot ≡ 0 → AreSeated [] (v ∷ [])
unfolding slot_in
seated_first v named numbered u = by (same_id u v.name) refl
  where
    is : same_id u v.name ≡ same_id u initial_state
    is = ap (same_id u) named

    by : (t : Bool) → same_id u v.name ≡ t → slot_of (v ∷ []) u ≡ slot_in [] u
    by true e = first_slot u v [] e ∙ ap (λ (n : ℕ). Some n) numbered ∙ sym (rw (sym is ∙ e) refl)
    by false e = slot_none (v ∷ []) u (live_next u v [] e ∙ none_live u) ∙ sym (rw (sym is ∙ e) refl)
