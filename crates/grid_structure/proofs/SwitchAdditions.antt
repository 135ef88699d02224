-- A switch more.
use Rattle.std.proofs.Common.{◌≡◌, refl, sym, ap, ◌∙◌, subst, ℕ, ℤ, ◌+◌, ◌<◌, ◌≤◌, Bool, true, false, cond, ◌||◌, List, [], ◌∷◌, ◌++◌, length, arith, Option, Some, None}
use Rattle.std.specs.Prelude.{map, slice_get, slice_set, is_some, Ok, Err}
use Rattle.std.specs.List.{list_any}
use Rattle.std.specs.Str.{bytes_eq}
use Rattle.std.proofs.lemmas.Bool.{lt-ltb, lt-leb, le-leb, true≢false}
use Rattle.std.proofs.lemmas.List.{map-append, length-append}
use Rattle.std.proofs.lemmas.List.Folds.{list_any-append}
use Rattle.grid_lemmas.proofs.Bools.{or_false, or_right}
use Rattle.grid_ids.specs.Name.{same_id, has_id}
use Rattle.grid_ids.proofs.Alike.{same_swap}
use Rattle.grid_kinds.specs.declared.SwitchKind.{SwitchKind}
use Rattle.grid_level.specs.declared.LevelFault.{LevelFault}
use Rattle.grid_level.specs.declared.Switch.{Switch}
use Rattle.grid_level.specs.VoltageLevel.{VoltageLevel}
use Rattle.grid_level.specs.LevelEdits.{edge_fits, level_with_switch, refusal_of}
use Rattle.grid_level.proofs.LevelEdits as on_level
use Rattle.grid_structure.specs.declared.NamedBranch.{NamedBranch}
use Rattle.grid_structure.specs.declared.structure.IdOwner.{IdOwner}
use Rattle.grid_structure.specs.declared.structure.IdOwner.TheVariants as entries
use Rattle.grid_structure.specs.declared.structure.Head.{Head}
use Rattle.grid_structure.specs.declared.Edit.TheVariants.{AddSwitch}
use Rattle.grid_structure.specs.declared.EditFault.TheVariants as faults
use Rattle.grid_structure.specs.Network.{Network}
use Rattle.grid_structure.specs.Sites.{find_level, switches, taken}
use Rattle.grid_structure.specs.Soundness.{IsSound}
use Rattle.grid_structure.specs.Editing.{apply, with_level, max_switches, IsTold, told_of}
use Rattle.grid_structure.specs.Cutting.{network_of}
use Rattle.grid_structure.specs.Indexed.{substation_at, level_at, switch_at, sides_at, terminal_at, is_within, has_switch, has_terminal}
use Rattle.grid_structure.specs.Kept.{IsKept}
use Rattle.grid_structure.proofs.Soundly.{apply_sound}
use Rattle.grid_structure.proofs.Frames.{is_same}
use Rattle.grid_structure.proofs.Places.{position_set_new, position_set_same}
use Rattle.grid_structure.proofs.Found.{taken_by}
use Rattle.grid_structure.proofs.Flat.{sides_set, Turns, Others, flat_turned, has_single}
use Rattle.grid_structure.proofs.LevelChanges.{some_level, level_there, level_nowhere, level_put, level_kept, kept_flat, told_refusal}
use Rattle.std.proofs.lemmas.Option.{slice_get_within}

pub none_of : (o : Option IdOwner) → is_some o ≡ false → o ≡ None
none_of (Some e) h = absurd (true≢false h)
none_of None h = refl

abbrev pub gains : VoltageLevel → Switch → VoltageLevel
gains old s = record old { switches = old.switches ++ s ∷ [] }

has_gained : (q : List ℕ) (old : VoltageLevel) (s : Switch) → has_switch q (gains old s) ≡ has_switch q old || (same_id q s.id || false)
unfolding has_switch has_id
has_gained q old s = ap (list_any (same_id q)) (map-append (λ (s : Switch). s.id) old.switches (s ∷ [])) ∙ list_any-append (same_id q) (map (λ (s : Switch). s.id) old.switches) (s.id ∷ [])

switch_others : (old : VoltageLevel) (s : Switch) → Others s.id old (gains old s)
unfolding has_single has_terminal
switch_others old s = record {
  switches = λ q h. has_gained q old s ∙ ap (λ t. has_switch q old || (t || false)) (same_swap s.id q h) ∙ or_false (has_switch q old);
  singles = λ q h. refl;
  terminals = λ q side h. refl;
}

-- the new switch of a level
pub record Made (old new : VoltageLevel) (e : List ℕ) : Type 0 where
  pub item : Switch
  pub item_id : item.id ≡ e
  pub is : gains old item ≡ new
  pub same_id : new.id ≡ old.id

pub switch_made : (old new : VoltageLevel) (e : List ℕ) (kind : SwitchKind) (node1 node2 : ℤ) (opened retained fictitious : Bool) → level_with_switch old e kind node1 node2 opened retained fictitious ≡ Ok new → Made old new e
unfolding level_with_switch
switch_made old new e kind node1 node2 opened retained fictitious h =
    let w = on_level.went (edge_fits old node1 node2) _ new h in
    let s : Switch = record { id = e; kind = kind; node1 = w.value.0; node2 = w.value.1; opened = opened; retained = retained; fictitious = fictitious } in
    let same : gains old s ≡ new = cc (w.next) in
    record { item = s; item_id = refl; is = same; same_id = sym (ap (λ (z : VoltageLevel). z.id) same) }

module _ {id : List ℕ} {heads : List Head} {ls : List VoltageLevel} {ts lines : List NamedBranch} {count : ℕ} {look : List ℕ → Option IdOwner} {places : List ℕ} (kept : IsKept id heads ls ts lines count look places) where
  abbrev net : Network
  net = network_of id heads ls ts lines

  -- an id that is not taken finds nothing
  pub finds_nothing : (e : List ℕ) → taken net e ≡ false → look e ≡ None
  finds_nothing e free = none_of (look e) (sym (taken_by look places net e kept.indexed) ∙ free)

  pub kept_alike : (other : List ℕ → Option IdOwner) → ((q : List ℕ) → other q ≡ look q) → IsKept id heads ls ts lines count other places
  kept_alike other same = record {
    sound = kept.sound;
    level_count = kept.level_count;
    transformer_count = kept.transformer_count;
    switch_count = kept.switch_count;
    few_substations = kept.few_substations;
    few_branches = kept.few_branches;
    indexed = record {
      substations = λ q. kept.indexed.substations q ∙ ap substation_at (sym (same q));
      levels_found = λ q. kept.indexed.levels_found q ∙ ap (level_at places) (sym (same q));
      switches_found = λ q. kept.indexed.switches_found q ∙ ap (switch_at places) (sym (same q));
      sides_found = λ q. kept.indexed.sides_found q ∙ ap sides_at (sym (same q));
      terminals = λ q side. kept.indexed.terminals q side ∙ ap (terminal_at places side) (sym (same q));
      within = λ q. ap (is_within (length places)) (same q) ∙ kept.indexed.within q;
      each_level = kept.indexed.each_level;
      places_below = kept.indexed.places_below;
    };
  }

  switch_turns : (s : Switch) (k key : ℕ) (old : VoltageLevel) → look s.id ≡ None → slice_get ls k ≡ Some old → slice_get places key ≡ Some k
      → Turns look places (slice_set ls k (gains old s)) (ts ++ lines) s.id (Some (entries.Switch key))
  unfolding has_single has_terminal
  switch_turns s k key old none at keyed =
      let f = kept_flat kept in
      record {
        no_substation = rw none refl;
        no_level = rw none refl;
        switch_is = position_set_new (has_switch s.id) ls k (gains old s) (slice_get_within ls k old at) (f.switches_found s.id ∙ ap (switch_at places) none)
            (has_gained s.id old s ∙ or_right (has_switch s.id old) _ (ap (λ t. t || false) (is_same s.id s.id refl))) ∙ sym keyed;
        sides_are = sides_set ls (ts ++ lines) s.id k old (gains old s) at refl ∙ f.sides_found s.id ∙ ap sides_at none;
        terminals_are = λ side. position_set_same (has_terminal s.id side) ls k old (gains old s) at refl ∙ f.terminals s.id side ∙ ap (terminal_at places side) none;
        entry_within = lt-ltb key (length places) (slice_get_within places key k keyed);
      }

  pub switch_kept : (s : Switch) (k key : ℕ) (old : VoltageLevel) (other : List ℕ → Option IdOwner) → look s.id ≡ None → slice_get ls k ≡ Some old → slice_get places key ≡ Some k
      → ((q : List ℕ) → other q ≡ cond (bytes_eq s.id q) (Some (entries.Switch key)) (look q)) → IsSound (network_of id heads (slice_set ls k (gains old s)) ts lines)
      → IsKept id heads (slice_set ls k (gains old s)) ts lines (count + 1) other places
  switch_kept s k key old other none at keyed is sound =
      level_kept kept k old (gains old s) (count + 1) other at sound (omega (arith, length-append old.switches (s ∷ [])))
      (flat_turned look other places heads ls (ts ++ lines) k old (gains old s) s.id (Some (entries.Switch key)) at refl is (switch_others old s) (switch_turns s k key old none at keyed) (kept_flat kept))

  -- what is to be made and what is asked first
  pub record Asked (e level : List ℕ) (k : ℕ) (old : VoltageLevel) : Type 0 where
    pub free : taken net e ≡ false
    pub found : find_level net level ≡ Some k
    pub at : slice_get ls k ≡ Some old

  pub switch_done : (e level : List ℕ) (k : ℕ) (old new : VoltageLevel) (kind : SwitchKind) (node1 node2 : ℤ) (opened retained fictitious : Bool) → Asked e level k old → length (switches net) < max_switches
      → level_with_switch old e kind node1 node2 opened retained fictitious ≡ Ok new
      → apply net (AddSwitch e level kind node1 node2 opened retained fictitious) ≡ Ok (network_of id heads (slice_set ls k new) ts lines)
  unfolding apply
  switch_done e level k old new kind node1 node2 opened retained fictitious a few h =
      let same = (switch_made old new e kind node1 node2 opened retained fictitious h).same_id in
      rw (a.free, (level_there kept level k old a.found a.at).named, lt-leb max_switches (length (switches net)) few, h) (ap (λ (z : Network). Ok z) (level_put kept level k old new a.found a.at same))

  pub switch_told : (e level : List ℕ) (k : ℕ) (old : VoltageLevel) (kind : SwitchKind) (node1 node2 : ℤ) (opened retained fictitious : Bool) (fault : LevelFault) → Asked e level k old → length (switches net) < max_switches
      → fault ≡ refusal_of (level_with_switch old e kind node1 node2 opened retained fictitious)
      → IsTold (apply net (AddSwitch e level kind node1 node2 opened retained fictitious)) (told_of fault)
  unfolding apply
  switch_told e level k old kind node1 node2 opened retained fictitious fault a few h =
      rw (a.free, (level_there kept level k old a.found a.at).named, lt-leb max_switches (length (switches net)) few)
      (told_refusal (level_with_switch old e kind node1 node2 opened retained fictitious) (λ new. Ok (with_level new net)) fault h)

  pub switch_taken : (e level : List ℕ) (kind : SwitchKind) (node1 node2 : ℤ) (opened retained fictitious : Bool) → taken net e ≡ true
      → apply net (AddSwitch e level kind node1 node2 opened retained fictitious) ≡ Err faults.IdTaken
  unfolding apply
  switch_taken e level kind node1 node2 opened retained fictitious h = rw h refl

  pub switch_nowhere : (e level : List ℕ) (kind : SwitchKind) (node1 node2 : ℤ) (opened retained fictitious : Bool) → taken net e ≡ false → find_level net level ≡ None
      → apply net (AddSwitch e level kind node1 node2 opened retained fictitious) ≡ Err faults.NoLevel
  unfolding apply
  switch_nowhere e level kind node1 node2 opened retained fictitious h none = rw (h, level_nowhere kept level none) refl

  pub switch_many : (e level : List ℕ) (k : ℕ) (kind : SwitchKind) (node1 node2 : ℤ) (opened retained fictitious : Bool) → taken net e ≡ false → find_level net level ≡ Some k → max_switches ≤ length (switches net)
      → apply net (AddSwitch e level kind node1 node2 opened retained fictitious) ≡ Err faults.TooManySwitches
  unfolding apply
  switch_many e level k kind node1 node2 opened retained fictitious free found many =
      let old = some_level kept level k found in
      rw (free, old.1, le-leb max_switches (length (switches net)) many) refl

  pub switch_added : (e level : List ℕ) (k key : ℕ) (old new : VoltageLevel) (kind : SwitchKind) (node1 node2 : ℤ) (opened retained fictitious : Bool) (other : List ℕ → Option IdOwner) → Asked e level k old
      → length (switches net) < max_switches → slice_get places key ≡ Some k → level_with_switch old e kind node1 node2 opened retained fictitious ≡ Ok new
      → ((q : List ℕ) → other q ≡ cond (bytes_eq e q) (Some (entries.Switch key)) (look q)) → IsKept id heads (slice_set ls k new) ts lines (count + 1) other places
  switch_added e level k key old new kind node1 node2 opened retained fictitious other a few keyed h is =
      let m = switch_made old new e kind node1 node2 opened retained fictitious h in
      let sound = apply_sound net (network_of id heads (slice_set ls k new) ts lines) (AddSwitch e level kind node1 node2 opened retained fictitious) (switch_done e level k old new kind node1 node2 opened retained fictitious a few h) kept.sound in
      subst (λ (z : VoltageLevel). IsKept id heads (slice_set ls k z) ts lines (count + 1) other places) m.is
      (switch_kept m.item k key old other (ap look m.item_id ∙ finds_nothing e a.free) a.at keyed (λ q. is q ∙ ap (λ z. cond (bytes_eq z q) (Some (entries.Switch key)) (look q)) (sym m.item_id))
      (subst (λ (z : VoltageLevel). IsSound (network_of id heads (slice_set ls k z) ts lines)) (sym m.is) sound))
