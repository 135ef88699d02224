-- A switch that was added is taken out again, and what is there is taken out.
use Rattle.std.proofs.Common.{◌≡◌, refl, sym, ap, ◌∙◌, subst, ℕ, ℤ, ◌+◌, ◌≤◌, Bool, true, false, not, cond, List, [], ◌∷◌, ◌++◌, length, map, Option, Some, None, arith}
use Rattle.std.specs.Prelude.{filter, flat_map, find, Ok, is_some, nat_le, ◌||◌}
use Rattle.std.proofs.lemmas.Bool.{and_parts}
use Rattle.std.proofs.lemmas.List.{map-append, append-nil}
use Rattle.std.proofs.lemmas.List.Elements.{filter-append}
use Rattle.grid_ids.specs.Name.{same_id, has_id}
use Rattle.grid_ids.proofs.Alike.{same_itself}
use Rattle.grid_ids.specs.Refusing.{refuse_if, found_or, map_fault}
use Rattle.grid_kinds.specs.declared.SwitchKind.{SwitchKind}
use Rattle.grid_level.specs.declared.Switch.{Switch}
use Rattle.grid_level.specs.VoltageLevel.{VoltageLevel}
use Rattle.grid_level.specs.LevelEdits.{level_with_switch}
use Rattle.grid_level.proofs.LevelEdits as on_level
use Rattle.grid_structure.specs.declared.Edit.{Edit}
use Rattle.grid_structure.specs.declared.Edit.TheVariants as edits
use Rattle.grid_structure.specs.declared.EditFault.TheVariants as faults
use Rattle.grid_structure.specs.declared.ApplyFault.{ApplyFault}
use Rattle.grid_structure.specs.declared.ApplyFault.TheVariants as apply_faults
use Rattle.grid_structure.specs.Network.{Network, Substation}
use Rattle.grid_structure.specs.Sites.{levels, switches, level_named, find_switch, switch_ids, single_ids, branch_ids, equipment_ids, all_ids, taken}
use Rattle.grid_structure.specs.Editing as editing
use Rattle.grid_structure.specs.Editing.{apply, edit_fault, max_switches, substation_with_levels, with_levels, level_without_switch, IsTold, IsRefused}
use Rattle.grid_structure.specs.Soundness.{IsSound}
use Rattle.grid_core.specs.Edits.{AddsSwitch}
use Rattle.grid_structure.proofs.Counts.{times, times-append, not_there, differ-times}
use Rattle.grid_structure.proofs.BranchRemovals.{none_out}
use Rattle.grid_structure.proofs.Frames.{put, ids_of, locals, locals-append, is_same, ids_counted, level_ids_once, put_level}
use Rattle.grid_structure.specs.Indexed.{level_of_switch}
use Rattle.grid_structure.proofs.Found.{switch_there, switch_nowhere}
use Rattle.grid_structure.proofs.SwitchAdditions.{gains, switch_made}
use Rattle.grid_structure.proofs.OneLevel.{names_of, found, fits}
use Rattle.grid_level.specs.declared.Placed.{Placed}
use Rattle.grid_level.specs.declared.Stand.{Stand}
use Rattle.grid_busview.specs.Views.{is_load, is_generation, stand_watts}
use Rattle.grid_states.specs.declared.sums.Counted.{Counted}
use Rattle.grid_states.specs.declared.sums.Sum.TheVariants as sums
use Rattle.grid_watts.specs.Watts.{terminals, is_powered, powered, powered_by}
use Rattle.grid_watts.specs.Nodes.{counted}
use Rattle.grid_watts.proofs.EquipmentShifts.{found_passes}
use Rattle.grid_watts.proofs.FirstSides.{none_powered, find_behind}

times_here : (x : List ℕ) (xs : List (List ℕ)) → times x (x ∷ xs) ≡ 1 + times x xs
times_here x xs = ap (λ t. cond t 1 0 + times x xs) (same_itself x)

-- ---- levels that two changes leave

-- the second change takes back what the first one did, in each of these
unfoldable Back : (VoltageLevel → VoltageLevel) → (VoltageLevel → VoltageLevel) → List VoltageLevel → Type 0
Back f g [] = Unit {0}
Back f g (l ∷ ls) = (g (f l) ≡ l) × Back f g ls

module _ (f g : VoltageLevel → VoltageLevel) where
  back_split : (xs ys : List VoltageLevel) → Back f g (xs ++ ys) → Back f g xs × Back f g ys
  unfolding Back
  back_split [] ys h = (tt, h)
  back_split (x ∷ xs) ys h = let rest = back_split xs ys h.1 in ((h.0, rest.0), rest.1)

  back_joined : (xs ys : List VoltageLevel) → Back f g xs → Back f g ys → Back f g (xs ++ ys)
  unfolding Back
  back_joined [] ys h k = k
  back_joined (x ∷ xs) ys h k = (h.0, back_joined xs ys h.1 k)

  back_more : (l : VoltageLevel) (ls : List VoltageLevel) → g (f l) ≡ l → Back f g ls → Back f g (l ∷ ls)
  unfolding Back
  back_more l ls h k = (h, k)

  back_map : (ls : List VoltageLevel) → Back f g ls → map g (map f ls) ≡ ls
  unfolding Back
  back_map [] h = refl
  back_map (l ∷ ls) h = ap (λ z. z ∷ map g (map f ls)) h.0 ∙ ap (λ z. l ∷ z) (back_map ls h.1)

  back_substations : (subs : List Substation) → Back f g (flat_map (λ (s : Substation). s.levels) subs) → map (substation_with_levels g) (map (substation_with_levels f) subs) ≡ subs
  unfolding substation_with_levels
  back_substations [] h = refl
  back_substations (s ∷ subs) h =
      let parts = back_split s.levels (flat_map (λ (s : Substation). s.levels) subs) h in
      ap (λ ls. let z : Substation = record s { levels = ls } in z ∷ map (substation_with_levels g) (map (substation_with_levels f) subs)) (back_map s.levels parts.0)
      ∙ ap (λ z. s ∷ z) (back_substations subs parts.1)

  back_network : (net : Network) → Back f g (levels net) → with_levels g (with_levels f net) ≡ net
  unfolding levels with_levels
  back_network net h = ap (λ (subs : List Substation). record net { substations = subs }) (back_substations net.substations h)

-- ---- a switch more, and less

-- the other levels have neither its level's id nor its own
others : (id : List ℕ) (new : VoltageLevel) (ls : List VoltageLevel) → times new.id (ids_of ls) ≡ 0 → locals id ls ≡ 0 → Back (put new) (level_without_switch id) ls
unfolding Back level_without_switch
others id new [] h k = tt
others id new (l ∷ ls) h k = (by (same_id new.id l.id) h, others id new ls (omega (arith, h)) (omega (arith, k)))
  where
    by : (t : Bool) → cond t 1 0 + times new.id (ids_of ls) ≡ 0 → level_without_switch id (cond t new l) ≡ l
    by true h = absurd (omega (arith, h))
    by false h = ap (λ ss. let z : VoltageLevel = record l { switches = ss } in z) (none_out (λ (s : Switch). s.id) id l.switches (omega (arith, k)))

-- the level that has it is as it was
own : (id : List ℕ) (old : VoltageLevel) (item : Switch) → item.id ≡ id → times id (map (λ (s : Switch). s.id) old.switches) ≡ 0 → level_without_switch id (gains old item) ≡ old
unfolding level_without_switch
own id old item named none =
    ap (λ ss. let z : VoltageLevel = record old { switches = ss } in z)
    (filter-append (λ (s : Switch). not (same_id id s.id)) old.switches (item ∷ [])
    ∙ ap (λ z. z ++ filter (λ (s : Switch). not (same_id id s.id)) (item ∷ [])) (none_out (λ (s : Switch). s.id) id old.switches none)
    ∙ ap (λ z. old.switches ++ z) (gone (same_id id item.id) (ap (same_id id) named ∙ same_itself id)) ∙ append-nil old.switches)
  where
    gone : (t : Bool) → t ≡ true → cond (not t) (item ∷ []) [] ≡ []
    gone true e = refl
    gone false e = cc

-- the network is as it was
pub undone : (net new back : Network) (id level : List ℕ) (kind : SwitchKind) (node1 node2 : ℤ) (opened retained fictitious : Bool) → IsSound net
    → apply net (edits.AddSwitch id level kind node1 node2 opened retained fictitious) ≡ Ok new → apply new (edits.RemoveSwitch id) ≡ Ok back → back ≡ net
unfolding apply taken editing.with_level
undone net new back id level kind node1 node2 opened retained fictitious sound h k =
    let t = on_level.went (refuse_if (taken net id) faults.IdTaken) _ new h in
    let free : taken net id ≡ false = on_level.not_refused _ _ _ t.is in
    let o = on_level.went (found_or (level_named net level) faults.NoLevel) _ new t.next in
    let old = o.value in
    let m = on_level.went (refuse_if (nat_le max_switches (length (switches net))) faults.TooManySwitches) _ new o.next in
    let w = on_level.went (map_fault edit_fault (level_with_switch old id kind node1 node2 opened retained fictitious)) _ new m.next in
    let is : with_levels (put w.value) net ≡ new = cc (w.next) in
    let made = switch_made old w.value id kind node1 node2 opened retained fictitious (fits _ _ _ w.is) in
    let r = on_level.went (refuse_if (not (has_id (switch_ids new) id)) faults.NoSuchId) _ back k in
    let less : with_levels (level_without_switch id) new ≡ back = cc (r.next) in
    let ids = differ-times (all_ids net) sound.ids in
    let p = put_level net level w.value old ids (found _ _ _ o.is) made.same_id in
    let none : times id (all_ids net) ≡ 0 = not_there id (all_ids net) free in
    let local_none : locals id (levels net) ≡ 0 = omega (arith, none, ids_counted id net) in
    let parted : locals id (levels net) ≡ locals id p.before + locals id (old ∷ p.after) = ap (locals id) p.was ∙ locals-append id p.before (old ∷ p.after) in
    let once = level_ids_once net ids old.id in
    let split : times old.id (ids_of (levels net)) ≡ times old.id (ids_of p.before) + (1 + times old.id (ids_of p.after)) =
    ap (λ ls. times old.id (ids_of ls)) p.was ∙ ap (times old.id) (map-append (λ (l : VoltageLevel). l.id) p.before (old ∷ p.after)) ∙ times-append old.id (ids_of p.before) (ids_of (old ∷ p.after))
    ∙ ap (λ n. times old.id (ids_of p.before) + n) (times_here old.id (ids_of p.after)) in
    let before_none : times w.value.id (ids_of p.before) ≡ 0 = ap (λ z. times z (ids_of p.before)) made.same_id ∙ omega (arith, once, split) in
    let after_none : times w.value.id (ids_of p.after) ≡ 0 = ap (λ z. times z (ids_of p.after)) made.same_id ∙ omega (arith, once, split) in
    let here : level_without_switch id (put w.value old) ≡ old =
    ap (level_without_switch id) (ap (λ (b : Bool). cond b w.value old) (is_same w.value.id old.id made.same_id) ∙ sym made.is) ∙ own id old made.item made.item_id (omega (arith, local_none, parted)) in
    let each : Back (put w.value) (level_without_switch id) (levels net) =
    subst (Back (put w.value) (level_without_switch id)) (sym p.was)
    (back_joined (put w.value) (level_without_switch id) p.before (old ∷ p.after) (others id w.value p.before before_none (omega (arith, local_none, parted)))
    (back_more (put w.value) (level_without_switch id) old p.after here (others id w.value p.after after_none (omega (arith, local_none, parted))))) in
    sym less ∙ ap (with_levels (level_without_switch id)) (sym is) ∙ back_network (put w.value) (level_without_switch id) net each

-- ---- a switch that is there is taken out

pub has_switch : (net : Network) (id : List ℕ) (at : ℕ × ℕ) → find_switch net id ≡ Some at → has_id (switch_ids net) id ≡ true
has_switch net id at h = switch_there net id ∙ by (level_of_switch net id) refl
  where
    by : (o : Option ℕ) → level_of_switch net id ≡ o → is_some o ≡ true
    by (Some k) e = refl
    by None e = let none = switch_nowhere net id e in absurd (cc (none, h))

pub not_told : (net : Network) (id : List ℕ) → has_id (switch_ids net) id ≡ true → (fault : ApplyFault) → IsTold (apply net (edits.RemoveSwitch id)) fault → IsRefused fault → ⊥
unfolding apply
not_told net id has (apply_faults.Refused fault) told refused =
    let went : apply net (edits.RemoveSwitch id) ≡ Ok (with_levels (level_without_switch id) net) = rw has refl in absurd (cc (went, told))
not_told net id has apply_faults.Memory told refused = refused

-- one that was added is there
in_levels : (id : List ℕ) (before after : List VoltageLevel) (new : VoltageLevel) → 1 ≤ times id (map (λ (s : Switch). s.id) new.switches)
    → 1 ≤ times id (map (λ (s : Switch). s.id) (flat_map (λ (l : VoltageLevel). l.switches) (before ++ new ∷ after)))
in_levels id [] after new h =
    let parts = ap (times id) (map-append (λ (s : Switch). s.id) new.switches (flat_map (λ (l : VoltageLevel). l.switches) after))
    ∙ times-append id (map (λ (s : Switch). s.id) new.switches) (map (λ (s : Switch). s.id) (flat_map (λ (l : VoltageLevel). l.switches) after)) in
    omega (arith, h, parts)
in_levels id (l ∷ before) after new h =
    let rest = flat_map (λ (l : VoltageLevel). l.switches) (before ++ new ∷ after) in
    let parts = ap (times id) (map-append (λ (s : Switch). s.id) l.switches rest) ∙ times-append id (map (λ (s : Switch). s.id) l.switches) (map (λ (s : Switch). s.id) rest) in
    omega (arith, in_levels id before after new h, parts)

last_there : (id : List ℕ) (old : VoltageLevel) (item : Switch) → item.id ≡ id → 1 ≤ times id (map (λ (s : Switch). s.id) (gains old item).switches)
last_there id old item named =
    let parts = ap (times id) (map-append (λ (s : Switch). s.id) old.switches (item ∷ [])) ∙ times-append id (map (λ (s : Switch). s.id) old.switches) (item.id ∷ []) in
    let one : times id (item.id ∷ []) ≡ 1 + times id [] = ap (λ z. times id (z ∷ [])) named ∙ times_here id [] in
    omega (arith, parts, one)

added_there : (net new : Network) (id level : List ℕ) (kind : SwitchKind) (node1 node2 : ℤ) (opened retained fictitious : Bool) → IsSound net
    → apply net (edits.AddSwitch id level kind node1 node2 opened retained fictitious) ≡ Ok new → has_id (switch_ids new) id ≡ true
unfolding apply switch_ids switches
added_there net new id level kind node1 node2 opened retained fictitious sound h =
    let t = on_level.went (refuse_if (taken net id) faults.IdTaken) _ new h in
    let o = on_level.went (found_or (level_named net level) faults.NoLevel) _ new t.next in
    let old = o.value in
    let m = on_level.went (refuse_if (nat_le max_switches (length (switches net))) faults.TooManySwitches) _ new o.next in
    let w = on_level.went (map_fault edit_fault (level_with_switch old id kind node1 node2 opened retained fictitious)) _ new m.next in
    let is : editing.with_level w.value net ≡ new = cc (w.next) in
    let made = switch_made old w.value id kind node1 node2 opened retained fictitious (fits _ _ _ w.is) in
    let p = put_level net level w.value old (differ-times (all_ids net) sound.ids) (found _ _ _ o.is) made.same_id in
    let lists : levels new ≡ p.before ++ w.value ∷ p.after = ap levels (sym is) ∙ p.is in
    let some : 1 ≤ times id (map (λ (s : Switch). s.id) w.value.switches) = subst (λ (l : VoltageLevel). 1 ≤ times id (map (λ (s : Switch). s.id) l.switches)) made.is (last_there id old made.item made.item_id) in
    let within = in_levels id p.before p.after w.value some in
    let all : 1 ≤ times id (switch_ids new) = subst (λ (ls : List VoltageLevel). 1 ≤ times id (map (λ (s : Switch). s.id) (flat_map (λ (l : VoltageLevel). l.switches) ls))) (sym lists) within in
    by (has_id (switch_ids new) id) refl all
  where
    by : (b : Bool) → has_id (switch_ids new) id ≡ b → 1 ≤ times id (switch_ids new) → has_id (switch_ids new) id ≡ true
    by true e all = e
    by false e all = let none = not_there id (switch_ids new) e in absurd (omega (arith, none, all))

-- of an edit that adds a switch
module _ (net new : Network) (edit : Edit) (id : List ℕ) (opened retained : Bool) (adds : AddsSwitch edit id opened retained) (sound : IsSound net) (h : apply net edit ≡ Ok new) where
  is_added : apply net (edits.AddSwitch id adds.level adds.kind adds.node1 adds.node2 opened retained adds.fictitious) ≡ Ok new
  is_added = ap (apply net) (sym adds.is) ∙ h

  pub switch_added : has_id (switch_ids new) id ≡ true
  switch_added = added_there net new id adds.level adds.kind adds.node1 adds.node2 opened retained adds.fictitious sound is_added

  pub switch_undone : (back : Network) → apply new (edits.RemoveSwitch id) ≡ Ok back → back ≡ net
  switch_undone back k = undone net new back id adds.level adds.kind adds.node1 adds.node2 opened retained adds.fictitious sound is_added k

-- ---- a load, a generator or a battery is taken out

-- it counts something
counts_something : (stand : Stand) → is_powered stand ≡ true → counted stand ≡ None → ⊥
unfolding is_powered counted
counts_something stand h k = by (is_load stand) (is_generation stand) h k
  where
    by : (load generation : Bool) → load || generation ≡ true
        → ◌≡◌ {A = Option Counted} (cond load (Some (record { sum = sums.Load; watts = stand_watts stand })) (cond generation (Some (record { sum = sums.Generation; watts = stand_watts stand })) None)) None → ⊥
    by true generation h k = cc
    by false true h k = cc
    by false false h k = cc

pub powered_counts : (net : Network) (id : List ℕ) (p : Placed) → powered net id ≡ Some p → counted p.stand ≡ None → ⊥
unfolding powered
powered_counts net id p h = counts_something p.stand (and_parts _ _ (found_passes (powered_by id) (terminals net) p h)).1

-- it is equipment
none_of : (id : List ℕ) (ls : List VoltageLevel) → times id (flat_map (λ (l : VoltageLevel). names_of l.placed) ls) ≡ 0 → find (powered_by id) (flat_map (λ (l : VoltageLevel). l.placed) ls) ≡ None
none_of id [] h = refl
none_of id (l ∷ ls) h =
    let parts = times-append id (names_of l.placed) (flat_map (λ (l : VoltageLevel). names_of l.placed) ls) in
    find_behind (powered_by id) l.placed (flat_map (λ (l : VoltageLevel). l.placed) ls) (none_powered id l.placed (omega (arith, h, parts))) ∙ none_of id ls (omega (arith, h, parts))

pub powered_there : (net : Network) (id : List ℕ) (p : Placed) → powered net id ≡ Some p → has_id (equipment_ids net) id ≡ true
unfolding powered terminals equipment_ids single_ids
powered_there net id p h = by (has_id (equipment_ids net) id) refl
  where
    by : (b : Bool) → has_id (equipment_ids net) id ≡ b → has_id (equipment_ids net) id ≡ true
    by true e = e
    by false e =
        let none = not_there id (equipment_ids net) e in
        let parts = times-append id (single_ids net) (branch_ids net) in
        let nowhere : powered net id ≡ None = none_of id (levels net) (omega (arith, none, parts)) in
        absurd (cc (nowhere, h))

pub equipment_not_told : (net : Network) (id : List ℕ) → has_id (equipment_ids net) id ≡ true → (fault : ApplyFault) → IsTold (apply net (edits.RemoveEquipment id)) fault → IsRefused fault → ⊥
unfolding apply
equipment_not_told net id has (apply_faults.Refused fault) told refused = let went = passed in absurd (cc (went.1, told))
  where
    passed : (new : Network) × (apply net (edits.RemoveEquipment id) ≡ Ok new)
    passed = rw has (_, refl)
equipment_not_told net id has apply_faults.Memory told refused = refused
