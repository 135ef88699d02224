-- What an edit makes of the machine of all variants.
use Rattle.std.proofs.Common.{◌≡◌, refl, sym, ap, ◌∙◌, subst, ℕ, ℤ, ◌<◌, ◌≤◌, Bool, true, false, List, [], length, Option, Some, None, All, arith}
use Rattle.std.specs.Prelude.{Ok, Err, Result}
use Rattle.std.specs.Prelude.{nat_le, is_err}
use Rattle.std.specs.Option.{option_map, option_and_then}
use Rattle.std.proofs.lemmas.Bool.{false≢true}
use Rattle.grid_ids.specs.Name.{has_id}
use Rattle.grid_kinds.specs.declared.CheckFault.{CheckFault}
use Rattle.grid_kinds.specs.declared.Injection.{Injection}
use Rattle.grid_kinds.specs.declared.SwitchKind.{SwitchKind}
use Rattle.grid_kinds.specs.Records.{level_fault, Tells}
use Rattle.grid_level.specs.declared.Placed.{Placed}
use Rattle.grid_level.specs.declared.Stand.TheVariants.{Feeder}
use Rattle.grid_busview.specs.Views.{stand_watts}
use Rattle.grid_states.specs.declared.row.NodeWatts.{NodeWatts}
use Rattle.grid_states.specs.declared.sums.Counted.{Counted}
use Rattle.grid_states.specs.Rows.{Rows, HasRoom, row_at, with_last, without_flag, with_level, with_no_pairs, with_switch, without_switch, with_empty, shifted, without_terminal}
use Rattle.grid_structure.specs.Sites.{levels, find_level, find_switch, new_level_place, taken, site, equipment_ids}
use Rattle.grid_structure.specs.declared.ApplyFault.{ApplyFault}
use Rattle.grid_structure.specs.declared.Edit.{Edit}
use Rattle.grid_structure.specs.declared.Edit.TheVariants as edits
use Rattle.grid_structure.specs.declared.EditFault.{EditFault}
use Rattle.grid_structure.specs.Network.{Network}
use Rattle.grid_structure.specs.Editing.{apply, max_levels, IsTold}
use Rattle.grid_structure.specs.Soundness.{IsSound}
use Rattle.grid_structure.proofs.ListOfLevels.{level_placed}
use Rattle.grid_slots.specs.Variants.{all_changed, IsTable}
use Rattle.grid_watts.specs.Watts.{load_total, generation_total, powered}
use Rattle.grid_watts.specs.Shares.{listed_after}
use Rattle.grid_watts.specs.Ranges.{is_narrow}
use Rattle.grid_watts.specs.Nodes.{listed_rows, rows_under, powered_at, gain, IsListing}
use Rattle.grid_watts.specs.Moved.{leaves_rows}
use Rattle.grid_watts.proofs.FirstSides.{site_below}
use Rattle.grid_requests.specs.declared.request.Request.TheVariants as requests
use Rattle.grid_core.specs.declared.reply.Reply.TheVariants as replies
use Rattle.grid_core.specs.declared.reply.Refusal.TheVariants as refusals
use Rattle.grid_core.specs.declared.machine.Machine.{Machine}
use Rattle.grid_core.specs.declared.machine.Made.{Made}
use Rattle.grid_core.specs.Solo.{State, state_rows, the_opened, the_retained, rows_after}
use Rattle.grid_core.specs.History.{Command, command, structure, is_live}
use Rattle.grid_core.specs.Replies.{state_of, reply, reply_to, change_reply, edit_events, events_of}
use Rattle.grid_core.specs.Fitting.{StateFits}
use Rattle.grid_core.specs.Made.{made_of, IsEditRefusal}
use Rattle.grid_core.specs.Machines.{Held, IsMachine, IsSame, Steps}
use Rattle.grid_core.specs.Edits.{Reshapes, LeavesPresent, GainsAt, LosesAt, WidensAt, BringsInjection, IsCountedAt}
use Rattle.grid_watts.proofs.Listings.{listings_room}
use Rattle.grid_watts.proofs.Variants.{injections_move, removals_move, removals_leave, levels_move, others_leave}
use Rattle.grid_core.proofs.NameRows.{each_held}
use Rattle.grid_core.proofs.SoundStates.{state_of-fits}
use Rattle.grid_core.proofs.Ranges.{rows_of_levels, switch_in_rows}
use Rattle.grid_core.proofs.EditRows.{level_place, level_passed, rows_after-level, switch_place, rows_after-switch, removed_place, rows_after-removed}
use Rattle.grid_core.proofs.StepEffects.{edited_step, refused_edit_step}
use Rattle.grid_core.proofs.Together.{state_structure, parts_edited, all_same}
use Rattle.grid_core.proofs.VariantPowers.{listing_edited}
use Rattle.grid_core.proofs.MachineSteps.{makes, held_unmoved, slots_live, present_sound}
use Rattle.grid_core.proofs.Removals.{powered_there}
use Rattle.grid_core.proofs.PowerRequests.{found_powered}

abbrev Flags : Type 0
Flags = List (List Bool)

change_replied : (origin : Network) (before : List Command) (worker : ℕ) (edit : Edit) (result : Result Network EditFault) → apply (structure origin before) edit ≡ result
    → reply origin before (command worker (requests.Change edit)) ≡ change_reply result
unfolding reply reply_to
change_replied origin before worker edit result h = ap change_reply h

at_present : (origin : Network) (before : List Command) (m : Machine) (edit : Edit) (result : Result Network EditFault) → Held origin before m → apply m.structure edit ≡ result → apply (structure origin before) edit ≡ result
at_present origin before m edit result h e = ap (λ (n : Network). apply n edit) (sym h.parts.structure_is) ∙ e

-- refused
pub edit_rejected : (m : Machine) (worker : ℕ) (edit : Edit) (fault : EditFault) (made : Made) → apply m.structure edit ≡ Err fault → made ≡ made_of (replies.Refused (refusals.Edit fault)) [] → Steps m m worker (requests.Change edit) made
unfolding change_reply events_of
edit_rejected m worker edit fault made e is origin before h =
    let no = at_present origin before m edit (Err fault) h e in
    makes origin before worker (requests.Change edit) (replies.Refused (refusals.Edit fault)) [] made m is (change_replied origin before worker edit (Err fault) no) refl
    (held_unmoved origin before (command worker (requests.Change edit)) m (refused_edit_step origin before worker edit fault no) h)

-- accepted, with this made of the rows and sums of each variant
pub edit_made : (m next : Machine) (worker : ℕ) (edit : Edit) (made : Made) (reshape : Rows → Rows) → Reshapes m.structure edit reshape → apply m.structure edit ≡ Ok next.structure → made ≡ made_of replies.Done (edit_events edit)
    → next.working.items ≡ m.working.items → next.slots ≡ all_changed reshape m.slots → Steps m next worker (requests.Change edit) made
unfolding change_reply events_of
edit_made m next worker edit made reshape reshapes e is wo sl origin before h =
    let yes = at_present origin before m edit (Ok next.structure) h e in
    let step = edited_step origin before worker edit next.structure yes in
    let parts = parts_edited origin before (command worker (requests.Change edit)) edit m.structure next.structure m.slots m.working.items reshape reshapes e step h.listing h.parts in
    let listing = listing_edited origin before (command worker (requests.Change edit)) m.structure h.listing edit next.structure step (present_sound origin before m h) e reshapes.narrow in
    makes origin before worker (requests.Change edit) replies.Done (edit_events edit) made next is (change_replied origin before worker edit (Ok next.structure) yes) refl
    (record { parts = rw (sl, wo) parts; listing = listing })

-- with rows and sums that stay
pub edit_alone : (m next : Machine) (worker : ℕ) (edit : Edit) (made : Made) → LeavesPresent m.structure edit → apply m.structure edit ≡ Ok next.structure → made ≡ made_of replies.Done (edit_events edit)
    → next.working.items ≡ m.working.items → next.slots ≡ m.slots → Steps m next worker (requests.Change edit) made
edit_alone m next worker edit made leaves e is wo sl = edit_made m next worker edit made (λ rows. rows) leaves e is wo (sl ∙ sym (all_same m.slots))

-- ---- a refused edit

held_same : (origin : Network) (steps : List Command) (m next : Machine) → IsSame m next → Held origin steps m → Held origin steps next
held_same origin steps m next same h = record { parts = rw (same.0, same.1, same.2) h.parts; listing = rw same.0 h.listing }

-- it leaves the same machine
pub edit_refused : (m next : Machine) (worker : ℕ) (edit : Edit) (fault : ApplyFault) (made : Made) → IsSame m next → IsTold (apply m.structure edit) fault → IsEditRefusal fault made → Steps m next worker (requests.Change edit) made
edit_refused m next worker edit fault made same told is origin before h =
    let s = edit_rejected m worker edit is.0 made (subst (λ z. IsTold (apply m.structure edit) z) is.1.0 told) is.1.1 origin before h in
    record { replied = s.replied; kept = s.kept; told = s.told; held = held_same origin _ m next same s.held }

-- ---- what is so of each variant

-- what is so of a state that fits the structure and lists what is there
each_fits : (P : Rows → Type 0) (m : Machine) → IsMachine m → IsTable m.slots → ((state : State) → StateFits state → m.structure ≡ state.structure → IsListing m.structure state.powers → P (state_rows state)) → All (λ v. P v.rows) m.slots
each_fits P m held table fits =
    each_held P (λ v. state_rows (state_of held.0 held.1.0 v)) m.slots table.rise held.1.1.parts.rows
    (λ name alive.
    let lives : is_live held.1.0 name ≡ true = sym (slots_live held.0 held.1.0 m name held.1.1) ∙ alive in
    fits (state_of held.0 held.1.0 name) (state_of-fits held.0 held.1.0 name held.1.1.parts.sound) (held.1.1.parts.structure_is ∙ sym (state_structure held.0 held.1.0 name lives)) (held.1.1.listing name lives))

in_state : (m : Machine) (state : State) (id : List ℕ) (level place : ℕ) → find_switch m.structure id ≡ Some (level, place) → m.structure ≡ state.structure → find_switch state.structure id ≡ Some (level, place)
in_state m state id level place h st = ap (λ (n : Network). find_switch n id) (sym st) ∙ h

-- the sums have room
pub all_room : (m : Machine) → IsMachine m → IsTable m.slots → All (λ v. HasRoom v.rows) m.slots
all_room m held table =
    each_fits HasRoom m held table
    (λ state f st li. subst (λ (n : Network). HasRoom (rows_under n state.opened state.retained state.powers)) st
    (listings_room m.structure state.opened state.retained state.powers (present_sound held.0 held.1.0 m held.1.1) li))

-- there are rows for the level at a place
pub level_rows : (m : Machine) (place : ℕ) → IsMachine m → IsTable m.slots → place < length (levels m.structure) → All (λ v. place < length v.rows.opened) m.slots
level_rows m place held table below =
    each_fits (λ rows. place < length rows.opened) m held table
    (λ state f st li.
    let count = rows_of_levels state.structure state.opened f.opened in
    let same : length (levels m.structure) ≡ length (levels state.structure) = ap (λ (n : Network). length (levels n)) st in
    omega (arith, count, same, below))

-- and room for one more
pub rows_room : (m : Machine) (place : ℕ) → IsMachine m → IsTable m.slots → place ≤ length (levels m.structure) → All (λ v. place ≤ length v.rows.opened) m.slots
rows_room m place held table within =
    each_fits (λ rows. place ≤ length rows.opened) m held table
    (λ state f st li.
    let count = rows_of_levels state.structure state.opened f.opened in
    let same : length (levels m.structure) ≡ length (levels state.structure) = ap (λ (n : Network). length (levels n)) st in
    omega (arith, count, same, within))

-- and flags for each switch
pub switch_levels : (m : Machine) (id : List ℕ) (level place : ℕ) → IsMachine m → IsTable m.slots → find_switch m.structure id ≡ Some (level, place) → All (λ v. level < length v.rows.opened) m.slots
switch_levels m id level place held table h = each_fits (λ rows. level < length rows.opened) m held table (λ state f st li. (switch_in_rows state.structure state.opened id level place f.opened (in_state m state id level place h st)).0)

pub switch_opened : (m : Machine) (id : List ℕ) (level place : ℕ) → IsMachine m → IsTable m.slots → find_switch m.structure id ≡ Some (level, place) → All (λ v. place < length (row_at v.rows.opened level)) m.slots
switch_opened m id level place held table h = each_fits (λ rows. place < length (row_at rows.opened level)) m held table (λ state f st li. (switch_in_rows state.structure state.opened id level place f.opened (in_state m state id level place h st)).1)

pub switch_retained : (m : Machine) (id : List ℕ) (level place : ℕ) → IsMachine m → IsTable m.slots → find_switch m.structure id ≡ Some (level, place) → All (λ v. place < length (row_at v.rows.retained level)) m.slots
switch_retained m id level place held table h = each_fits (λ rows. place < length (row_at rows.retained level)) m held table (λ state f st li. (switch_in_rows state.structure state.retained id level place f.retained (in_state m state id level place h st)).1)

-- ---- edits that leave all as it is

-- by their kind
unfoldable pub leaves_all : Edit → Bool
leaves_all (edits.AddSubstation id) = true
leaves_all (edits.AddBusbar id level node) = true
leaves_all (edits.AddBranch id shape) = true
leaves_all (edits.AddInternal level node1 node2) = true
leaves_all (edits.RemoveInternal level node1 node2) = true
leaves_all other = false

pub left_by_kind : (net : Network) (edit : Edit) → IsSound net → leaves_all edit ≡ true → LeavesPresent net edit
unfolding leaves_all leaves_rows rows_after listed_after
left_by_kind net (edits.AddSubstation id) sound h = record { narrow = tt; rows = λ new opened retained listed e li. others_leave net new (edits.AddSubstation id) opened retained listed sound e refl }
left_by_kind net (edits.AddBusbar id level node) sound h = record { narrow = tt; rows = λ new opened retained listed e li. others_leave net new (edits.AddBusbar id level node) opened retained listed sound e refl }
left_by_kind net (edits.AddBranch id shape) sound h = record { narrow = tt; rows = λ new opened retained listed e li. others_leave net new (edits.AddBranch id shape) opened retained listed sound e refl }
left_by_kind net (edits.AddInternal level node1 node2) sound h = record { narrow = tt; rows = λ new opened retained listed e li. others_leave net new (edits.AddInternal level node1 node2) opened retained listed sound e refl }
left_by_kind net (edits.RemoveInternal level node1 node2) sound h = record { narrow = tt; rows = λ new opened retained listed e li. others_leave net new (edits.RemoveInternal level node1 node2) opened retained listed sound e refl }
left_by_kind net (edits.AddLevel id substation nominal_v low_v high_v) sound h = absurd (false≢true h)
left_by_kind net (edits.AddSwitch id level kind node1 node2 opened retained fictitious) sound h = absurd (false≢true h)
left_by_kind net (edits.RemoveSwitch id) sound h = absurd (false≢true h)
left_by_kind net (edits.AddInjection id level node item) sound h = absurd (false≢true h)
left_by_kind net (edits.RemoveEquipment id) sound h = absurd (false≢true h)

-- ---- a switch more

-- where the level stands
pub gains_switch : (net : Network) (id level : List ℕ) (kind : SwitchKind) (node1 node2 : ℤ) (opened retained fictitious : Bool) (place : ℕ) → IsSound net → Some place ≡ find_level net level
    → GainsAt net (edits.AddSwitch id level kind node1 node2 opened retained fictitious) place opened retained
unfolding with_switch listed_after leaves_rows
gains_switch net id level kind node1 node2 opened retained fictitious place sound h = record {
  narrow = tt;
  rows = λ new op re listed e li.
      let edit = edits.AddSwitch id level kind node1 node2 opened retained fictitious in
      let at = switch_place net new id level kind node1 node2 opened retained fictitious e in
      let same : at.0 ≡ place = cc (at.1, h) in
      let here : find_level new level ≡ Some place = at.2 ∙ ap (λ k. Some k) same in
      ap (λ (f : Flags → Flags). rows_under new (f op) (rows_after the_retained net new edit re) listed) (rows_after-switch the_opened net new id level kind node1 node2 opened retained fictitious place here)
      ∙ ap (λ (f : Flags → Flags). rows_under new (with_last op place opened) (f re) listed) (rows_after-switch the_retained net new id level kind node1 node2 opened retained fictitious place here)
      ∙ others_leave net new edit (with_last op place opened) (with_last re place retained) listed sound e refl;
}

pub no_switch_level : (net : Network) (id level : List ℕ) (kind : SwitchKind) (node1 node2 : ℤ) (opened retained fictitious : Bool) → None ≡ find_level net level → LeavesPresent net (edits.AddSwitch id level kind node1 node2 opened retained fictitious)
no_switch_level net id level kind node1 node2 opened retained fictitious h = record {
  narrow = tt;
  rows = λ new op re listed e li. let at = switch_place net new id level kind node1 node2 opened retained fictitious e in absurd (cc (at.1, h));
}

-- ---- a switch less

pub loses_switch : (net : Network) (id : List ℕ) (level place : ℕ) → IsSound net → find_switch net id ≡ Some (level, place) → LosesAt net (edits.RemoveSwitch id) level place
unfolding without_switch listed_after leaves_rows
loses_switch net id level place sound h = record {
  narrow = tt;
  rows = λ new op re listed e li.
      ap (λ (f : Flags → Flags). rows_under new (f op) (rows_after the_retained net new (edits.RemoveSwitch id) re) listed) (rows_after-removed the_opened net new id level place h)
      ∙ ap (λ (f : Flags → Flags). rows_under new (without_flag op level place) (f re) listed) (rows_after-removed the_retained net new id level place h)
      ∙ others_leave net new (edits.RemoveSwitch id) (without_flag op level place) (without_flag re level place) listed sound e refl;
}

pub no_switch : (net : Network) (id : List ℕ) → find_switch net id ≡ None → LeavesPresent net (edits.RemoveSwitch id)
no_switch net id h = record { narrow = tt; rows = λ new op re listed e li. let at = removed_place net new id e in absurd (cc (at.2, h)) }

-- ---- a level more

-- where the level will stand
pub widens_level : (net : Network) (id substation : List ℕ) (nominal_v : ℤ) (low_v high_v : Option ℤ) (place : ℕ) → IsSound net → Some place ≡ new_level_place net.substations substation → place ≤ length (levels net)
    → WidensAt net (edits.AddLevel id substation nominal_v low_v high_v) place
unfolding with_empty listed_after
widens_level net id substation nominal_v low_v high_v place sound told within = (
  within,
  record {
    narrow = tt;
    rows = λ new op re listed e li.
        let edit = edits.AddLevel id substation nominal_v low_v high_v in
        let here : find_level new id ≡ Some place = level_placed net new id substation nominal_v low_v high_v e sound ∙ sym told in
        let moved = levels_move net new id substation nominal_v low_v high_v place listed sound e here in
        ap (λ (f : Flags → Flags). rows_under new (f op) (rows_after the_retained net new edit re) listed) (rows_after-level the_opened net new id substation nominal_v low_v high_v place here)
        ∙ ap (λ (f : Flags → Flags). rows_under new (with_level op place) (f re) listed) (rows_after-level the_retained net new id substation nominal_v low_v high_v place here)
        ∙ rows_alike (with_level op place) (with_level re place) (listed_rows listed new) (with_no_pairs (listed_rows listed net) place) (load_total new listed) (load_total net listed) (generation_total new listed) (generation_total net listed) moved.0 moved.1.0 moved.1.1;
  },
)
  where
    rows_alike : (op re : Flags) (w u : List (List NodeWatts)) (l k g j : ℤ) → w ≡ u → l ≡ k → g ≡ j
        → ◌≡◌ {A = Rows} (record { opened = op; retained = re; watts = w; load = l; generation = g }) (record { opened = op; retained = re; watts = u; load = k; generation = j })
    rows_alike op re w u l k g j a b c = rw (a, b, c) refl

pub no_home : (net : Network) (id substation : List ℕ) (nominal_v : ℤ) (low_v high_v : Option ℤ) → IsSound net → None ≡ new_level_place net.substations substation → LeavesPresent net (edits.AddLevel id substation nominal_v low_v high_v)
no_home net id substation nominal_v low_v high_v sound none = record {
  narrow = tt;
  rows = λ new op re listed e li.
      let at = level_place net new id substation nominal_v low_v high_v sound e in
      let placed = level_placed net new id substation nominal_v low_v high_v e sound in absurd (cc (at.1, placed, none));
}

-- levels that are refused, whatever their substation
module _ (net : Network) (id substation : List ℕ) (nominal_v : ℤ) (low_v high_v : Option ℤ) where
  pub taken_level : taken net id ≡ true → LeavesPresent net (edits.AddLevel id substation nominal_v low_v high_v)
  taken_level h = record { narrow = tt; rows = λ new op re listed e li. absurd (cc ((level_passed net new id substation nominal_v low_v high_v e).0, h)) }

  pub faulty_level : {T : Type 0} (checked : Result T CheckFault) → Tells (level_fault nominal_v low_v high_v) checked → is_err checked ≡ true → LeavesPresent net (edits.AddLevel id substation nominal_v low_v high_v)
  faulty_level (Ok x) told h = absurd (cc h)
  faulty_level (Err fault) told h = record { narrow = tt; rows = λ new op re listed e li. absurd (cc ((level_passed net new id substation nominal_v low_v high_v e).2, told)) }

  pub level_beyond : nat_le max_levels (length (levels net)) ≡ true → LeavesPresent net (edits.AddLevel id substation nominal_v low_v high_v)
  level_beyond h = record { narrow = tt; rows = λ new op re listed e li. absurd (cc ((level_passed net new id substation nominal_v low_v high_v e).1, h)) }

-- ---- equipment

-- a new injection brings its record's watts
pub gains_injection : (net : Network) (edit : Edit) (id : List ℕ) (item : Injection) → IsSound net → BringsInjection edit id item → is_narrow (stand_watts (Feeder item)) ≡ true → Reshapes net edit (shifted (gain (Feeder item)))
unfolding rows_after listed_after
gains_injection net edit id item sound brings narrow =
    subst (λ (e : Edit). Reshapes net e (shifted (gain (Feeder item)))) (sym brings.1.1)
    (record { narrow = narrow; rows = λ new op re listed e li. injections_move net new id brings.0 brings.1.0 item op re listed sound e li })

-- a load, a generator or a battery takes its watts away
pub loses_counted : (net : Network) (id : List ℕ) (level node : ℕ) (counts : Counted) → IsSound net → IsCountedAt net id level node counts → Reshapes net (edits.RemoveEquipment id) (λ rows. without_terminal rows level node counts)
unfolding rows_after listed_after
loses_counted net id level node counts sound at = record {
  narrow = tt;
  rows = λ new op re listed e li.
      removals_move net new id level at.placed counts op re listed sound e at.at at.counts_is
      ∙ ap (λ n. without_terminal (rows_under net op re listed) level n counts) at.node_is;
}

-- other equipment takes none
pub no_counted : (net : Network) (id : List ℕ) → IsSound net → powered_at net id ≡ None → LeavesPresent net (edits.RemoveEquipment id)
unfolding rows_after listed_after
no_counted net id sound none = record { narrow = tt; rows = λ new op re listed e li. removals_leave net new id op re listed sound e none }

-- it is there
pub counted_there : (net : Network) (id : List ℕ) (level node : ℕ) (counts : Counted) → IsCountedAt net id level node counts → has_id (equipment_ids net) id ≡ true
counted_there net id level node counts at = powered_there net id at.placed (found_powered net id level at.placed at.at)

pub counted_level : (net : Network) (id : List ℕ) (level node : ℕ) (counts : Counted) → IsCountedAt net id level node counts → level < length (levels net)
unfolding powered_at
counted_level net id level node counts at = by (site net id 1) refl (powered net id) at.at
  where
    by : (o : Option (ℕ × ℕ)) → site net id 1 ≡ o → (q : Option Placed) → option_and_then {U = ℕ × Placed} (λ (at : ℕ × ℕ). option_map (λ (x : Placed). (at.0, x)) q) o ≡ Some (level, at.placed) → level < length (levels net)
    by (Some where_it) s (Some x) e = let pair : ◌≡◌ {A = ℕ × Placed} (where_it.0, x) (level, at.placed) = cc in subst (λ k. k < length (levels net)) (ap (λ (z : ℕ × Placed). z.0) pair) (site_below net id where_it.0 where_it.1 s)
    by (Some where_it) s None e = cc
    by None s q e = cc
