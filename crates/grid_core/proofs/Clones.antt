-- What a clone makes of the machine of all variants.
use Rattle.std.proofs.Common.{◌≡◌, refl, ap, ◌∙◌, ℕ, ◌<◌, Bool, true, false, cond, ◌||◌, List, [], ◌∷◌, None}
use Rattle.std.specs.Prelude.{◌==◌, unwrap_or}
use Rattle.std.specs.List.{list_any}
use Rattle.grid_lemmas.proofs.Numbers.{same_number}
use Rattle.grid_ids.specs.Name.{same_id, id_below}
use Rattle.grid_structure.specs.Network.{Network}
use Rattle.grid_slots.specs.Variant.{Variant}
use Rattle.grid_slots.specs.declared.slots.Cloned.{Cloned}
use Rattle.grid_slots.specs.declared.slots.Cloned.TheVariants as clones
use Rattle.grid_slots.specs.declared.slots.SlotFault.{SlotFault}
use Rattle.grid_slots.specs.declared.slots.SlotFault.TheVariants as slot_faults
use Rattle.grid_slots.specs.Names.{with_name}
use Rattle.grid_slots.specs.Places.{variant}
use Rattle.grid_slots.specs.Variants.{names, slot_of, has_slot, rows_of, with_variant, IsTable}
use Rattle.grid_slots.specs.Answers.{clone_fault, IsClone}
use Rattle.grid_slots.proofs.UsedSlots.{used_below}
use Rattle.grid_requests.specs.declared.request.Request.TheVariants as requests
use Rattle.grid_core.specs.declared.reply.Reply.{Reply}
use Rattle.grid_core.specs.declared.reply.Reply.TheVariants as replies
use Rattle.grid_core.specs.declared.machine.Machine.{Machine}
use Rattle.grid_core.specs.declared.machine.Made.{Made}
use Rattle.grid_core.specs.Slotted.{cloned_reply, target_slot}
use Rattle.grid_core.specs.History.{Command, command, live, is_live}
use Rattle.grid_core.specs.Replies.{reply, reply_to, clone_reply, events_of}
use Rattle.grid_core.specs.Made.{made_of, cloned_event, IsRefusal}
use Rattle.grid_core.specs.Machines.{Steps}
use Rattle.grid_core.proofs.ByNumber.{slot-changed}
use Rattle.grid_core.proofs.NameRows.{slot_there}
use Rattle.grid_core.proofs.LiveNames.{clone_refused, clone_accepted}
use Rattle.grid_core.proofs.StepEffects.{cloned_step, refused_clone_step}
use Rattle.grid_core.proofs.Lineages.{may_clone-from}
use Rattle.grid_core.proofs.VariantPowers.{listing_cloned}
use Rattle.grid_core.proofs.Together.{parts_cloned}
use Rattle.grid_core.proofs.MachineSteps.{makes, held_unmoved}

clone_replied : (origin : Network) (before : List Command) (worker : ℕ) (from to : List ℕ) (overwrite : Bool) (r : Reply) → clone_reply (live before) from to overwrite ≡ r
    → reply origin before (command worker (requests.CloneVariant from to overwrite)) ≡ r
unfolding reply reply_to
clone_replied origin before worker from to overwrite r h = h

refused_silent : (v from to : List ℕ) (overwrite : Bool) (refusal : _) → events_of v (requests.CloneVariant from to overwrite) (replies.Refused refusal) ≡ []
unfolding events_of
refused_silent v from to overwrite refusal = refl

cloned_told : (v from to : List ℕ) (overwrite : Bool) (cloned : Cloned) → events_of v (requests.CloneVariant from to overwrite) (cloned_reply cloned) ≡ cloned_event cloned from to ∷ []
unfolding events_of cloned_reply cloned_event
cloned_told v from to overwrite (clones.Created slot) = refl
cloned_told v from to overwrite (clones.Overwritten slot) = refl

-- the slots refuse
pub clone_rejected : (m : Machine) (worker : ℕ) (from to : List ℕ) (overwrite : Bool) (fault : SlotFault) (made : Made) → fault ≡ unwrap_or (clone_fault m.slots from to overwrite) slot_faults.Memory → IsRefusal fault made
    → Steps m m worker (requests.CloneVariant from to overwrite) made
clone_rejected m worker from to overwrite fault made f is origin before h =
    let both = clone_refused m.slots (live before) from to overwrite fault is.0 h.parts.names_are f is.1.0 in
    makes origin before worker (requests.CloneVariant from to overwrite) (replies.Refused is.0) [] made m is.1.1
    (clone_replied origin before worker from to overwrite (replies.Refused is.0) both.0) (refused_silent _ from to overwrite is.0)
    (held_unmoved origin before (command worker (requests.CloneVariant from to overwrite)) m (refused_clone_step origin before worker from to overwrite both.1) h)

-- a variant that was put among the others has its slot
or_true : (b : Bool) → b || true ≡ true
or_true true = refl
or_true false = refl

put_slot : (v : Variant) (vs : List Variant) → has_slot (with_variant v vs) v.slot ≡ true
unfolding has_slot with_variant
put_slot v [] = rw (same_number v.slot) refl
put_slot v (w ∷ vs) = by (id_below v.name w.name) (put_slot v vs)
  where
    by : (t : Bool) → list_any (λ (u : Variant). u.slot == v.slot) (with_variant v vs) ≡ true → list_any (λ (u : Variant). u.slot == v.slot) (cond t (v ∷ w ∷ vs) (w ∷ with_variant v vs)) ≡ true
    by true rest = rw (same_number v.slot) refl
    by false rest = rw rest (or_true (w.slot == v.slot))

-- the target has a slot afterwards
target_there : (old new : List Variant) (from to : List ℕ) (cloned : Cloned) → IsClone old new from to cloned → has_slot new (target_slot cloned) ≡ true
unfolding target_slot
target_there old new from to (clones.Created slot) is = ap (λ vs. has_slot vs slot) is.2 ∙ put_slot (variant to slot (rows_of old from)) old
target_there old new from to (clones.Overwritten slot) is =
    slot_there new to slot (ap (λ vs. slot_of vs to) is.1 ∙ slot-changed (λ v. same_id to v.name) (λ rows. rows_of old from) old to ∙ is.0)

pub target_below : (old new : List Variant) (from to : List ℕ) (cloned : Cloned) → IsTable new → IsClone old new from to cloned → target_slot cloned < 64
target_below old new from to cloned table is = used_below new (target_slot cloned) table.below (target_there old new from to cloned is)

pub clone_made : (m new : Machine) (worker : ℕ) (from to : List ℕ) (overwrite : Bool) (cloned : Cloned) (made : Made) → IsTable m.slots → IsTable new.slots
    → clone_fault m.slots from to overwrite ≡ None → IsClone m.slots new.slots from to cloned → names new.slots ≡ with_name to (names m.slots)
    → made ≡ made_of (cloned_reply cloned) (cloned_event cloned from to ∷ [])
    → new.structure ≡ m.structure → new.working.items ≡ m.working.items → Steps m new worker (requests.CloneVariant from to overwrite) made
unfolding is_live
clone_made m new worker from to overwrite cloned made table after f clone named is st wo origin before h =
    let both = clone_accepted m.slots new.slots (live before) from to overwrite cloned h.parts.names_are f clone in
    let source : is_live before from ≡ true = may_clone-from (live before) from to overwrite both.1 in
    let step = cloned_step origin before worker from to overwrite both.1 in
    let parts = parts_cloned origin before (command worker (requests.CloneVariant from to overwrite)) from to m.structure m.slots new.slots m.working.items cloned step clone table.rise (target_below m.slots new.slots from to cloned after clone) named source h.parts in
    let listing = listing_cloned origin before (command worker (requests.CloneVariant from to overwrite)) m.structure h.listing from to step source in
    makes origin before worker (requests.CloneVariant from to overwrite) (cloned_reply cloned) (cloned_event cloned from to ∷ []) made new is
    (clone_replied origin before worker from to overwrite (cloned_reply cloned) both.0) (cloned_told _ from to overwrite cloned)
    (record { parts = rw (st, wo) parts; listing = rw st listing })
