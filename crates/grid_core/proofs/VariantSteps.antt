-- Steps that ask of one variant: what they find, and what they make of the machine of all variants.
use Rattle.std.proofs.Common.{◌≡◌, refl, sym, ap, ◌∙◌, subst, ℕ, suc, zero, ◌<◌, Bool, true, false, List, [], ◌∷◌, length, get_or, Some, None}
use Rattle.std.specs.Prelude.{slice_get, ◌==◌, IsTrue}
use Rattle.grid_structure.specs.Network.{Network}
use Rattle.grid_structure.specs.Sites.{find_switch}
use Rattle.grid_states.specs.Rows as rows
use Rattle.grid_states.specs.Rows.{Rows, row_at}
use Rattle.grid_events.specs.declared.event.Event.{Event}
use Rattle.grid_events.specs.declared.event.Event.TheVariants as events
use Rattle.grid_slots.specs.Variant.{Variant}
use Rattle.grid_slots.specs.Variants.{has_slot, rows_at, changed, IsTable}
use Rattle.grid_requests.specs.declared.request.Request.{Request}
use Rattle.grid_requests.specs.declared.request.Request.TheVariants as requests
use Rattle.grid_core.specs.declared.reply.Reply.{Reply}
use Rattle.grid_core.specs.declared.reply.Reply.TheVariants as replies
use Rattle.grid_core.specs.declared.reply.Refusal.TheVariants as refusals
use Rattle.grid_core.specs.declared.machine.Machine.{Machine}
use Rattle.grid_core.specs.declared.machine.Made.{Made}
use Rattle.std.specs.Bool.{beq}
use Rattle.grid_core.specs.Solo.{State, state_rows, solo, flag_at, with_opened, with_retained, set_from}
use Rattle.grid_core.specs.History.{Command, command, is_live, is_switching, working}
use Rattle.grid_core.specs.Replies.{state_of, reply_on, events_of}
use Rattle.grid_core.specs.Fitting.{StateFits}
use Rattle.grid_core.specs.Made.{made_of}
use Rattle.grid_core.specs.Machines.{Held, IsMachine, IsDead, Standing, StandsAt, Makes, Steps, WorksOn, switching}
use Rattle.grid_core.proofs.NameRows.{slot_there}
use Rattle.grid_core.proofs.Ranges.{switch_in_rows}
use Rattle.grid_core.proofs.RequestKinds.{of_variant, switching_variant, variant_request, refused_events}
use Rattle.grid_core.proofs.StepEffects.{Switched, dead_step, switched_step, unswitched_step}
use Rattle.grid_watts.specs.Nodes.{IsListing}
use Rattle.grid_core.proofs.VariantPowers.{listing_switched}
use Rattle.grid_core.proofs.Together.{parts_flagged, reply_live, reply_dead}
use Rattle.grid_core.proofs.RequestOutcomes.{open_nowhere, close_nowhere, retain_nowhere, open_found, close_found, retain_found, set_already, set_done}
use Rattle.grid_core.proofs.MachineSteps.{makes, held_unmoved}
use Rattle.std.proofs.lemmas.Option.{slice_get_within}

-- ---- what is found

pub got_is : {X : Type 0} (xs : List X) (k : ℕ) (x d : X) → slice_get xs k ≡ Some x → get_or xs k d ≡ x
got_is [] k x d h = cc
got_is (y ∷ xs) zero x d h = cc
got_is (y ∷ xs) (suc k) x d h = got_is xs k x d h

-- the worker's variant
pub working_of : (origin : Network) (before : List Command) (m : Machine) (worker : ℕ) (v : List ℕ) → Held origin before m → WorksOn m worker v → working before worker ≡ v
working_of origin before m worker v h works = let is = h.parts.working_are worker (slice_get_within m.working.items worker v works) in cc (is, works)

-- a live variant has a slot
pub stands_slot : (m : Machine) (v : List ℕ) (slot : ℕ) → StandsAt m v slot → IsTrue (has_slot m.slots slot)
stands_slot m v slot at = slot_there m.slots v slot at.0

-- what a slot has is that of a state which fits the structure
pub record Flagged (m : Machine) (slot : ℕ) : Type 0 where
  pub state : State
  pub fits : StateFits state
  pub rows : rows_at m.slots slot ≡ state_rows state
  pub structure_is : m.structure ≡ state.structure
  pub listing : IsListing m.structure state.powers

pub flagged : (m : Machine) (v : List ℕ) (slot : ℕ) → IsMachine m → StandsAt m v slot → Flagged m slot
flagged m v slot held at =
    let s = at.1 held.0 held.1.0 held.1.1 in
    record { state = state_of held.0 held.1.0 v; fits = s.fits; rows = s.rows; structure_is = s.structure_is; listing = s.listing }

-- a switch has both flags
pub record Within (rows : Rows) (level place : ℕ) : Type 0 where
  pub level_is : level < length rows.opened
  pub opened : place < length (row_at rows.opened level)
  pub retained : place < length (row_at rows.retained level)

pub within : (m : Machine) (slot : ℕ) (id : List ℕ) (level place : ℕ) → Flagged m slot → find_switch m.structure id ≡ Some (level, place) → Within (rows_at m.slots slot) level place
within m slot id level place f h =
    let at : find_switch f.state.structure id ≡ Some (level, place) = ap (λ (n : Network). find_switch n id) (sym f.structure_is) ∙ h in
    let opened = switch_in_rows f.state.structure f.state.opened id level place f.fits.opened at in
    let retained = switch_in_rows f.state.structure f.state.retained id level place f.fits.retained at in
    subst (λ (rows : Rows). Within rows level place) (sym f.rows) (record { level_is = opened.0; opened = opened.1; retained = retained.1 })

-- ---- steps that change nothing, and steps that change what the variant has

-- the worker's variant is not live
pub dead_made : (m : Machine) (worker : ℕ) (v : List ℕ) (r : Request) (made : Made) → of_variant r ≡ true → WorksOn m worker v → IsDead m v → made ≡ made_of (replies.Refused refusals.NoVariant) [] → Steps m m worker r made
dead_made m worker v r made of works none is origin before h =
    let dead : is_live before (working before worker) ≡ false = ap (is_live before) (working_of origin before m worker v h works) ∙ none origin before h in
    makes origin before worker r (replies.Refused refusals.NoVariant) [] made m is
    ((variant_request r of).replied origin before worker ∙ reply_dead origin before (working before worker) r dead) (refused_events (working before worker) r refusals.NoVariant)
    (held_unmoved origin before (command worker r) m (dead_step origin before worker r of dead) h)

-- it is, and its machine answers and stays
module _ (origin : Network) (before : List Command) (m : Machine) (worker slot : ℕ) (v : List ℕ) (r : Request) (rep : Reply) (made : Made) (of : of_variant r ≡ true) (works : WorksOn m worker v) (at : StandsAt m v slot) (h : Held origin before m) where
  stands : Standing origin before m v slot
  stands = at.1 origin before h

  same : working before worker ≡ v
  same = working_of origin before m worker v h works

  pub stays_after : solo (state_of origin before v) r ≡ (state_of origin before v, rep) → events_of v r rep ≡ [] → made ≡ made_of rep [] → Makes origin before (command worker r) made m
  stays_after answered silent is =
      let told : solo (state_of origin before (working before worker)) r ≡ (state_of origin before (working before worker), rep) =
      subst (λ (n : List ℕ). solo (state_of origin before n) r ≡ (state_of origin before n, rep)) (sym same) answered in
      let alive : is_live before (working before worker) ≡ true = ap (is_live before) same ∙ stands.alive in
      makes origin before worker r rep [] made m is
      ((variant_request r of).replied origin before worker ∙ reply_live origin before (working before worker) r alive ∙ ap (λ (z : State × Reply). z.1) told) (ap (λ n. events_of n r rep) same ∙ silent)
      (held_unmoved origin before (command worker r) m (unswitched_step origin before worker r of alive (ap (λ (z : State × Reply). z.0) told)) h)

  -- and changes what it has
  pub moves_after : (es : List Event) (change : Rows → Rows) (next : State) (variants : List Variant) → is_switching r ≡ true → IsTable m.slots → solo (state_of origin before v) r ≡ (next, rep)
      → state_rows next ≡ change (state_rows (state_of origin before v)) → IsListing m.structure next.powers → events_of v r rep ≡ es → made ≡ made_of rep es
      → variants ≡ changed (λ x. x.slot == slot) change m.slots → Makes origin before (command worker r) made (record m { slots = variants })
  moves_after es change next variants switches table does moved listed told is gone =
      let alive : is_live before (working before worker) ≡ true = ap (is_live before) same ∙ stands.alive in
      let switched = subst (λ (n : List ℕ). Switched origin before (command worker r) n) same (switched_step origin before worker r switches alive) in
      let parts = parts_flagged origin before (command worker r) v m.structure m.slots m.working.items slot change switched table.differ at.0 (ap (λ (z : State × Reply). state_rows z.0) does ∙ moved) h.parts in
      let listing = listing_switched origin before (command worker r) m.structure h.listing v switched (subst (λ (s : State). IsListing m.structure s.powers) (sym (ap (λ (z : State × Reply). z.0) does)) listed) in
      makes origin before worker r rep es made (record m { slots = variants }) is
      ((variant_request r of).replied origin before worker ∙ ap (λ n. reply_on origin before n r) same ∙ reply_live origin before v r stands.alive ∙ ap (λ (z : State × Reply). z.1) does) (ap (λ n. events_of n r rep) same ∙ told)
      (record { parts = rw gone parts; listing = listing })

-- whatever the history
pub stays : (m : Machine) (worker slot : ℕ) (v : List ℕ) (r : Request) (rep : Reply) (made : Made) → of_variant r ≡ true → WorksOn m worker v → StandsAt m v slot
    → ((state : State) → m.structure ≡ state.structure → rows_at m.slots slot ≡ state_rows state → solo state r ≡ (state, rep))
    → events_of v r rep ≡ [] → made ≡ made_of rep [] → Steps m m worker r made
stays m worker slot v r rep made of works at answers silent is origin before h =
    let s = at.1 origin before h in
    stays_after origin before m worker slot v r rep made of works at h (answers (state_of origin before v) s.structure_is s.rows) silent is

-- what a request makes of a state, where its machine changes what the variant has
pub record Moved (net : Network) (r : Request) (rep : Reply) (change : Rows → Rows) (state next : State) : Type 0 where
  pub does : solo state r ≡ (next, rep)
  pub rows : state_rows next ≡ change (state_rows state)
  pub listing : IsListing net next.powers

pub moves : (m : Machine) (worker slot : ℕ) (v : List ℕ) (r : Request) (rep : Reply) (es : List Event) (made : Made) (change : Rows → Rows) (next : State → State) (variants : List Variant)
    → is_switching r ≡ true → IsTable m.slots → WorksOn m worker v → StandsAt m v slot
    → ((state : State) → StateFits state → m.structure ≡ state.structure → rows_at m.slots slot ≡ state_rows state → IsListing m.structure state.powers → Moved m.structure r rep change state (next state))
    → events_of v r rep ≡ es → made ≡ made_of rep es → variants ≡ changed (λ x. x.slot == slot) change m.slots → Steps m (record m { slots = variants }) worker r made
moves m worker slot v r rep es made change next variants switches table works at answers told is gone origin before h =
    let s = at.1 origin before h in
    let state = state_of origin before v in
    let a = answers state s.fits s.structure_is s.rows s.listing in
    moves_after origin before m worker slot v r rep made (switching_variant r switches) works at h es change (next state) variants switches table a.does a.rows a.listing told is gone

-- ---- a switch

switches_switching : (id : List ℕ) (opened : Bool) → is_switching (switching id opened) ≡ true
unfolding is_switching
switches_switching id true = refl
switches_switching id false = refl

of_switching : (id : List ℕ) (opened : Bool) → of_variant (switching id opened) ≡ true
of_switching id opened = switching_variant (switching id opened) (switches_switching id opened)

silent_switching : (v id : List ℕ) (opened : Bool) → events_of v (switching id opened) replies.Unchanged ≡ []
unfolding events_of
silent_switching v id true = refl
silent_switching v id false = refl

told_switching : (v id : List ℕ) (opened : Bool) → events_of v (switching id opened) replies.Done ≡ events.Updated v id opened ∷ []
unfolding events_of
told_switching v id true = refl
told_switching v id false = refl

nowhere : (state : State) (id : List ℕ) (opened : Bool) → find_switch state.structure id ≡ None → solo state (switching id opened) ≡ (state, replies.Refused refusals.NoSwitch)
nowhere state id true h = open_nowhere state id h
nowhere state id false h = close_nowhere state id h

somewhere : (state : State) (id : List ℕ) (opened : Bool) (at : ℕ × ℕ) → find_switch state.structure id ≡ Some at → solo state (switching id opened) ≡ set_from state (flag_at state.opened at) opened (with_opened state at opened)
somewhere state id true at h = open_found state id at h
somewhere state id false at h = close_found state id at h

pub position_dead : (m : Machine) (worker : ℕ) (v id : List ℕ) (opened : Bool) (made : Made) → WorksOn m worker v → IsDead m v → made ≡ made_of (replies.Refused refusals.NoVariant) [] → Steps m m worker (switching id opened) made
position_dead m worker v id opened made works none is = dead_made m worker v (switching id opened) made (of_switching id opened) works none is

pub position_nowhere : (m : Machine) (worker slot : ℕ) (v id : List ℕ) (opened : Bool) (made : Made) → WorksOn m worker v → StandsAt m v slot → find_switch m.structure id ≡ None
    → made ≡ made_of (replies.Refused refusals.NoSwitch) [] → Steps m m worker (switching id opened) made
position_nowhere m worker slot v id opened made works at none is =
    stays m worker slot v (switching id opened) (replies.Refused refusals.NoSwitch) made (of_switching id opened) works at
    (λ state st ro. nowhere state id opened (ap (λ (n : Network). find_switch n id) (sym st) ∙ none)) (refused_events v (switching id opened) refusals.NoSwitch) is

pub position_same : (m : Machine) (worker slot level place : ℕ) (v id : List ℕ) (opened was : Bool) (made : Made) → WorksOn m worker v → StandsAt m v slot → find_switch m.structure id ≡ Some (level, place)
    → slice_get (row_at (rows_at m.slots slot).opened level) place ≡ Some was → beq was opened ≡ true → made ≡ made_of replies.Unchanged [] → Steps m m worker (switching id opened) made
unfolding flag_at
position_same m worker slot level place v id opened was made works at found now equal is =
    stays m worker slot v (switching id opened) replies.Unchanged made (of_switching id opened) works at
    (λ state st ro.
    let flag : flag_at state.opened (level, place) ≡ was = got_is (row_at state.opened level) place was false (ap (λ (rows : Rows). slice_get (row_at rows.opened level) place) (sym ro) ∙ now) in
    somewhere state id opened (level, place) (ap (λ (n : Network). find_switch n id) (sym st) ∙ found)
    ∙ set_already state (flag_at state.opened (level, place)) opened (with_opened state (level, place) opened) (ap (λ b. beq b opened) flag ∙ equal))
    (silent_switching v id opened) is

pub position_made : (m : Machine) (worker slot level place : ℕ) (v id : List ℕ) (opened was : Bool) (made : Made) (variants : List Variant) → IsTable m.slots → WorksOn m worker v → StandsAt m v slot
    → find_switch m.structure id ≡ Some (level, place) → slice_get (row_at (rows_at m.slots slot).opened level) place ≡ Some was → beq was opened ≡ false
    → made ≡ made_of replies.Done (events.Updated v id opened ∷ []) → variants ≡ changed (λ x. x.slot == slot) (λ r. rows.with_opened r level place opened) m.slots
    → Steps m (record m { slots = variants }) worker (switching id opened) made
unfolding flag_at with_opened rows.with_opened
position_made m worker slot level place v id opened was made variants table works at found now other is gone =
    moves m worker slot v (switching id opened) replies.Done (events.Updated v id opened ∷ []) made (λ r. rows.with_opened r level place opened) (λ state. with_opened state (level, place) opened) variants (switches_switching id opened) table works at
    (λ state f st ro li.
    let flag : flag_at state.opened (level, place) ≡ was = got_is (row_at state.opened level) place was false (ap (λ (rows : Rows). slice_get (row_at rows.opened level) place) (sym ro) ∙ now) in
    record {
      does = somewhere state id opened (level, place) (ap (λ (n : Network). find_switch n id) (sym st) ∙ found)
          ∙ set_done state (flag_at state.opened (level, place)) opened (with_opened state (level, place) opened) (ap (λ b. beq b opened) flag ∙ other);
      rows = refl;
      listing = li;
    })
    (told_switching v id opened) is gone

-- ---- the flag retained of a switch

pub retain_dead : (m : Machine) (worker : ℕ) (v id : List ℕ) (flag : Bool) (made : Made) → WorksOn m worker v → IsDead m v → made ≡ made_of (replies.Refused refusals.NoVariant) [] → Steps m m worker (requests.RetainSwitch id flag) made
unfolding of_variant
retain_dead m worker v id flag made works none is = dead_made m worker v (requests.RetainSwitch id flag) made refl works none is

pub retain_lost : (m : Machine) (worker slot : ℕ) (v id : List ℕ) (flag : Bool) (made : Made) → WorksOn m worker v → StandsAt m v slot → find_switch m.structure id ≡ None
    → made ≡ made_of (replies.Refused refusals.NoSwitch) [] → Steps m m worker (requests.RetainSwitch id flag) made
unfolding of_variant
retain_lost m worker slot v id flag made works at none is =
    stays m worker slot v (requests.RetainSwitch id flag) (replies.Refused refusals.NoSwitch) made refl works at
    (λ state st ro. retain_nowhere state id flag (ap (λ (n : Network). find_switch n id) (sym st) ∙ none)) (refused_events v (requests.RetainSwitch id flag) refusals.NoSwitch) is

pub retain_same : (m : Machine) (worker slot level place : ℕ) (v id : List ℕ) (flag was : Bool) (made : Made) → WorksOn m worker v → StandsAt m v slot → find_switch m.structure id ≡ Some (level, place)
    → slice_get (row_at (rows_at m.slots slot).retained level) place ≡ Some was → beq was flag ≡ true → made ≡ made_of replies.Unchanged [] → Steps m m worker (requests.RetainSwitch id flag) made
unfolding flag_at of_variant events_of
retain_same m worker slot level place v id flag was made works at found now equal is =
    stays m worker slot v (requests.RetainSwitch id flag) replies.Unchanged made refl works at
    (λ state st ro.
    let kept : flag_at state.retained (level, place) ≡ was = got_is (row_at state.retained level) place was false (ap (λ (rows : Rows). slice_get (row_at rows.retained level) place) (sym ro) ∙ now) in
    retain_found state id flag (level, place) (ap (λ (n : Network). find_switch n id) (sym st) ∙ found)
    ∙ set_already state (flag_at state.retained (level, place)) flag (with_retained state (level, place) flag) (ap (λ b. beq b flag) kept ∙ equal))
    refl is

pub retain_made : (m : Machine) (worker slot level place : ℕ) (v id : List ℕ) (flag was : Bool) (made : Made) (variants : List Variant) → IsTable m.slots → WorksOn m worker v → StandsAt m v slot
    → find_switch m.structure id ≡ Some (level, place) → slice_get (row_at (rows_at m.slots slot).retained level) place ≡ Some was → beq was flag ≡ false → made ≡ made_of replies.Done []
    → variants ≡ changed (λ x. x.slot == slot) (λ r. rows.with_retained r level place flag) m.slots → Steps m (record m { slots = variants }) worker (requests.RetainSwitch id flag) made
unfolding flag_at is_switching events_of with_retained rows.with_retained
retain_made m worker slot level place v id flag was made variants table works at found now other is gone =
    moves m worker slot v (requests.RetainSwitch id flag) replies.Done [] made (λ r. rows.with_retained r level place flag) (λ state. with_retained state (level, place) flag) variants refl table works at
    (λ state f st ro li.
    let kept : flag_at state.retained (level, place) ≡ was = got_is (row_at state.retained level) place was false (ap (λ (rows : Rows). slice_get (row_at rows.retained level) place) (sym ro) ∙ now) in
    record {
      does = retain_found state id flag (level, place) (ap (λ (n : Network). find_switch n id) (sym st) ∙ found)
          ∙ set_done state (flag_at state.retained (level, place)) flag (with_retained state (level, place) flag) (ap (λ b. beq b flag) kept ∙ other);
      rows = refl;
      listing = li;
    })
    refl is gone
