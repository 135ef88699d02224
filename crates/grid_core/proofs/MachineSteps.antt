-- What each kind of step makes of the machine of all variants.
use Rattle.std.proofs.Common.{◌≡◌, refl, sym, ap, ◌∙◌, subst, ℕ, Bool, true, false, List, [], ◌∷◌, Option, Some, None}
use Rattle.std.specs.Prelude.{slice_set, if◌then◌else◌, MatchOption, Result, Ok, Err, IfOk}
use Rattle.grid_ids.specs.Name.{has_id}
use Rattle.grid_structure.specs.Network.{Network}
use Rattle.grid_structure.specs.Soundness.{IsSound}
use Rattle.grid_events.specs.declared.event.Event.{Event}
use Rattle.grid_events.specs.declared.event.Event.TheVariants as events
use Rattle.grid_slots.specs.declared.slots.SlotFault.{SlotFault}
use Rattle.grid_slots.specs.Answers.{remove_fault}
use Rattle.grid_slots.specs.Variants.{slot_of, is_live as has_name, without_variant, IsTable}
use Rattle.grid_requests.specs.declared.request.Request.{Request}
use Rattle.grid_requests.specs.declared.request.Request.TheVariants as requests
use Rattle.grid_core.specs.declared.reply.Reply.{Reply}
use Rattle.grid_core.specs.declared.reply.Reply.TheVariants as replies
use Rattle.grid_core.specs.declared.reply.Refusal.TheVariants as refusals
use Rattle.grid_core.specs.declared.machine.Machine.{Machine}
use Rattle.grid_core.specs.declared.machine.Made.{Made}
use Rattle.grid_core.specs.History.{Command, command, live, is_live, working}
use Rattle.grid_core.specs.Replies.{reply, reply_to, use_reply, remove_reply, step_events, events_of}
use Rattle.grid_core.specs.Made.{made_of, IsRefusal}
use Rattle.grid_core.specs.Machines.{Held, IsDead, Standing, StandsAt, Makes, Steps}
use Rattle.grid_core.proofs.SoundStates.{state_of-fits, structure-sound}
use Rattle.grid_core.proofs.LiveNames.{slot_live, live_slot, remove_refused, remove_accepted}
use Rattle.grid_core.proofs.StepEffects.{Unmoved, used_step, refused_use_step, removed_step, refused_removal_step}
use Rattle.grid_core.proofs.VariantPowers.{listing_unmoved, listing_used, listing_removed}
use Rattle.grid_core.proofs.Together.{stands, parts_unmoved, parts_used, parts_removed}

-- ---- answers

-- what is so of an answer
pub each_ok : {A E : Type 0} {P Q : A → Type 0} (r : Result A E) → IfOk r P → ((x : A) → P x → Q x) → IfOk r Q
each_ok (Ok x) p next = next x p
each_ok (Err e) p next = tt

-- ---- what is found

-- the present structure is sound
pub present_sound : (origin : Network) (steps : List Command) (m : Machine) → Held origin steps m → IsSound m.structure
present_sound origin steps m h = subst IsSound (sym h.parts.structure_is) (structure-sound origin steps h.parts.sound)

-- a live name by the slots is live in the history
pub slots_live : (origin : Network) (steps : List Command) (m : Machine) (name : List ℕ) → Held origin steps m → has_name m.slots name ≡ is_live steps name
unfolding has_name is_live
slots_live origin steps m name h = ap (λ ns. has_id ns name) h.parts.names_are

pub standing : (origin : Network) (steps : List Command) (m : Machine) (name : List ℕ) (slot : ℕ) → IsTable m.slots → slot_of m.slots name ≡ Some slot → Held origin steps m → Standing origin steps m name slot
standing origin steps m name slot table at h =
    let alive : is_live steps name ≡ true = sym (slots_live origin steps m name h) ∙ slot_live m.slots name slot at in
    let s = stands origin steps m.structure m.slots m.working.items name h.parts table.differ alive in
    let same : s.slot ≡ slot = cc (s.slot_is, at) in
    subst (λ k. Standing origin steps m name k) same (record { alive = alive; rows = s.rows; listing = h.listing name alive; structure_is = s.structure_is; fits = state_of-fits origin steps name h.parts.sound })

dead : (origin : Network) (steps : List Command) (m : Machine) (name : List ℕ) → slot_of m.slots name ≡ None → Held origin steps m → is_live steps name ≡ false
dead origin steps m name none h = by (is_live steps name) refl
  where
    by : (t : Bool) → is_live steps name ≡ t → is_live steps name ≡ false
    by true e = let at = live_slot m.slots name (slots_live origin steps m name h ∙ e) in absurd (cc (at.1, none))
    by false e = e

pub found : (m : Machine) (name : List ℕ) (o : Option ℕ) → o ≡ slot_of m.slots name → IsTable m.slots → MatchOption o (IsDead m name) (StandsAt m name)
found m name None e table = λ origin steps h. dead origin steps m name (sym e) h
found m name (Some slot) e table = (sym e, λ origin steps h. standing origin steps m name slot table (sym e) h)

-- ---- one step

-- by its reply and events
pub makes : (origin : Network) (before : List Command) (worker : ℕ) (request : Request) (r : Reply) (es : List Event) (made : Made) (new : Machine) → made ≡ made_of r es
    → reply origin before (command worker request) ≡ r → events_of (working before worker) request r ≡ es → Held origin (command worker request ∷ before) new → Makes origin before (command worker request) made new
unfolding step_events
makes origin before worker request r es made new is replied told held = record {
  replied = ap (λ (m : Made). m.reply) is ∙ sym replied;
  kept = ap (λ (m : Made). m.kept) is ∙ sym replied;
  told = ap (λ (m : Made). m.events) is ∙ sym told ∙ ap (events_of (working before worker) request) (sym replied);
  held = held;
}

-- what is made by its parts
pub made_by : (made : Made) (r : Reply) (es : List Event) → made.reply ≡ r → made.kept ≡ r → made.events ≡ es → made ≡ made_of r es
made_by made r es reply kept events =
    ap (λ (z : Reply). let m : Made = record { reply = z; kept = made.kept; events = made.events } in m) reply
    ∙ ap (λ (z : Reply). let m : Made = record { reply = r; kept = z; events = made.events } in m) kept
    ∙ ap (made_of r) events

-- one that changes nothing
pub held_unmoved : (origin : Network) (before : List Command) (step : Command) (m : Machine) → Unmoved origin before step → Held origin before m → Held origin (step ∷ before) m
held_unmoved origin before step m u h = record {
  parts = parts_unmoved origin before step m.structure m.slots m.working.items u h.parts;
  listing = listing_unmoved origin before step m.structure h.listing u;
}

-- ---- uses

use_replied : (origin : Network) (before : List Command) (worker : ℕ) (name : List ℕ) (t : Bool) → is_live before name ≡ t
    → reply origin before (command worker (requests.UseVariant name)) ≡ (if t then replies.Done else replies.Refused refusals.NoVariant)
unfolding reply reply_to use_reply is_live
use_replied origin before worker name t h = rw h refl

pub use_refused : (m : Machine) (worker : ℕ) (name : List ℕ) (made : Made) → IsDead m name → made ≡ made_of (replies.Refused refusals.NoVariant) [] → Steps m m worker (requests.UseVariant name) made
unfolding events_of is_live
use_refused m worker name made none is origin before h =
    let gone : is_live before name ≡ false = none origin before h in
    makes origin before worker (requests.UseVariant name) (replies.Refused refusals.NoVariant) [] made m is (use_replied origin before worker name false gone) refl
    (held_unmoved origin before (command worker (requests.UseVariant name)) m (refused_use_step origin before worker name gone) h)

held_used : (origin : Network) (before : List Command) (worker : ℕ) (name : List ℕ) (m new : Machine) → new.structure ≡ m.structure → new.slots ≡ m.slots
    → new.working.items ≡ slice_set m.working.items worker name → is_live before name ≡ true → Held origin before m → Held origin (command worker (requests.UseVariant name) ∷ before) new
unfolding is_live
held_used origin before worker name m new st sl wo alive h =
    let parts = parts_used origin before (command worker (requests.UseVariant name)) name m.structure m.slots m.working.items (used_step origin before worker name alive) h.parts in
    let listing = listing_used origin before (command worker (requests.UseVariant name)) m.structure h.listing name (used_step origin before worker name alive) in
    record { parts = rw (st, sl, wo) parts; listing = rw st listing }

pub use_made : (m new : Machine) (worker slot : ℕ) (name : List ℕ) (made : Made) → StandsAt m name slot → made ≡ made_of replies.Done []
    → new.structure ≡ m.structure → new.slots ≡ m.slots → new.working.items ≡ slice_set m.working.items worker name
    → Steps m new worker (requests.UseVariant name) made
unfolding events_of
use_made m new worker slot name made at is st sl wo origin before h =
    let alive = (at.1 origin before h).alive in
    makes origin before worker (requests.UseVariant name) replies.Done [] made new is (use_replied origin before worker name true alive) refl
    (held_used origin before worker name m new st sl wo alive h)

-- ---- removals

remove_replied : (origin : Network) (before : List Command) (worker : ℕ) (name : List ℕ) (r : Reply) → remove_reply (live before) name ≡ r → reply origin before (command worker (requests.RemoveVariant name)) ≡ r
unfolding reply reply_to
remove_replied origin before worker name r h = h

pub remove_rejected : (m : Machine) (worker : ℕ) (name : List ℕ) (fault : SlotFault) (made : Made) → remove_fault m.slots name ≡ Some fault → IsRefusal fault made → Steps m m worker (requests.RemoveVariant name) made
unfolding events_of
remove_rejected m worker name fault made f is origin before h =
    let both = remove_refused m.slots (live before) name fault is.0 h.parts.names_are f is.1.0 in
    makes origin before worker (requests.RemoveVariant name) (replies.Refused is.0) [] made m is.1.1 (remove_replied origin before worker name (replies.Refused is.0) both.0) refl
    (held_unmoved origin before (command worker (requests.RemoveVariant name)) m (refused_removal_step origin before worker name both.1) h)

pub remove_made : (m new : Machine) (worker : ℕ) (name : List ℕ) (made : Made) → IsTable m.slots → remove_fault m.slots name ≡ None
    → made ≡ made_of replies.Done (events.VariantRemoved name ∷ []) → new.structure ≡ m.structure → new.slots ≡ without_variant name m.slots
    → new.working.items ≡ m.working.items → Steps m new worker (requests.RemoveVariant name) made
unfolding events_of
remove_made m new worker name made table f is st gone wo origin before h =
    let both = remove_accepted m.slots (live before) name h.parts.names_are f in
    let parts = parts_removed origin before (command worker (requests.RemoveVariant name)) name m.structure m.slots m.working.items (removed_step origin before worker name both.1) table.differ h.parts in
    makes origin before worker (requests.RemoveVariant name) replies.Done (events.VariantRemoved name ∷ []) made new is (remove_replied origin before worker name replies.Done both.0) refl
    (let listing = listing_removed origin before (command worker (requests.RemoveVariant name)) m.structure h.listing name (removed_step origin before worker name both.1) in
    record { parts = rw (st, gone, wo) parts; listing = rw st listing })
