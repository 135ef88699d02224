-- What outages one after the other make of a state: its levels, its branches, its rows and its watts.
use Rattle.std.proofs.Common.{◌≡◌, ◌≢◌, inl, inr, refl, sym, ap, ◌∙◌, subst, ℕ, zero, suc, ◌+◌, ◌≤◌, Bool, true, false, cond, not, ◌||◌, List, [], ◌∷◌, ◌++◌, get_or, map, arith, Option, Some, None}
use Rattle.std.specs.Prelude.{filter, fold, position, slice_get, slice_set, flat_map, is_some, Ok, Err, Result, if◌then◌else◌, ◌==◌}
use Rattle.std.specs.List.{enumerate_from, list_any}
use Rattle.std.specs.Option.{option_map}
use Rattle.std.proofs.lemmas.Bool.{eq-eqb, eqb-true, true≢false, false≢true, or_left, or_right, or_cases}
use Rattle.std.proofs.lemmas.List.Folds.{list_any-append}
use Rattle.grid_lemmas.proofs.Lists.{map_twice, set_same}
use Rattle.grid_ids.specs.Name.{same_id, has_id}
use Rattle.grid_ids.proofs.Alike.{same_is, same_swap}
use Rattle.grid_level.specs.declared.Placed.{Placed}
use Rattle.grid_level.specs.declared.Switch.{Switch}
use Rattle.grid_level.specs.VoltageLevel.{VoltageLevel}
use Rattle.grid_level.specs.LevelEdits.{level_without_equipment}
use Rattle.grid_level.specs.Passing.{positioned}
use Rattle.grid_powers.specs.Listed.{Listed, value_in}
use Rattle.grid_powers.proofs.ListedValues.{value_without}
use Rattle.grid_states.specs.Rows.{row_at, with_row, with_flag}
use Rattle.grid_structure.specs.declared.NamedBranch.{NamedBranch}
use Rattle.grid_structure.specs.declared.Edit.TheVariants.{RemoveEquipment}
use Rattle.grid_structure.specs.declared.EditFault.{EditFault}
use Rattle.grid_structure.specs.Network.{Network}
use Rattle.grid_structure.specs.Sites.{levels, branches, equipment_ids, find_switch, first_found, site}
use Rattle.grid_structure.specs.Editing.{apply, without_branch}
use Rattle.grid_structure.specs.Soundness.{IsSound}
use Rattle.grid_structure.proofs.TerminalRemovals.{all_cleared, is_at, mentions}
use Rattle.grid_structure.proofs.Frames.{is_same}
use Rattle.grid_structure.proofs.Soundly.{apply_sound}
use Rattle.grid_busview.specs.Views.{bus_view_of}
use Rattle.grid_watts.specs.Watts.{level_watts, watts_at, watts_for}
use Rattle.grid_watts.specs.Shares.{listed_after}
use Rattle.grid_requests.specs.declared.request.Request.TheVariants.{OpenSwitch, Change}
use Rattle.grid_core.specs.Solo.{State, solo, edited, changed_state, refused, rows_after, set_from, flag_at, with_opened, bus_view_at, positioned_at}
use Rattle.grid_core.proofs.RequestOutcomes.{open_found}
use Rattle.grid_core.proofs.PlanPlaces.{bus_view-positioned}
use Rattle.grid_sums.specs.Sums.{buses_under}
use Rattle.grid_outages.specs.Changes.{level_without, branches_without, buses_over}
use Rattle.grid_screen.specs.Outages.{is_switch, outage_request, with_out}
use Rattle.grid_screen.specs.Findings.{level_buses, state_buses}
use Rattle.grid_outages.specs.Steps.{levels_with_out, rows_with_out, taken_out, cleared_side}
use Rattle.grid_outages.proofs.OutageChanges.{switch_out, equipment_out}
use Rattle.grid_screen.proofs.EquipmentRemovals.{lessened, no_branch}
use Rattle.grid_screen.proofs.Stands.{Sited, sited, none_gone}

-- ---- one id more

left_more : {X : Type 0} (name : X → List ℕ) (removed : List (List ℕ)) (id : List ℕ) (xs : List X)
    → filter (λ x. not (same_id id (name x))) (filter (λ x. not (has_id removed (name x))) xs) ≡ filter (λ x. not (has_id (removed ++ id ∷ []) (name x))) xs
unfolding has_id
left_more name removed id [] = refl
left_more {X} name removed id (x ∷ xs) =
    by (list_any (same_id (name x)) removed) (same_id id (name x)) refl refl (left_more name removed id xs)
  where
    some : X → Bool
    some y = not (list_any (same_id (name y)) removed)

    other : X → Bool
    other y = not (same_id id (name y))

    neither : X → Bool
    neither y = not (list_any (same_id (name y)) (removed ++ id ∷ []))

    turned : (t : Bool) → same_id id (name x) ≡ t → same_id (name x) id ≡ t
    turned true e = is_same (name x) id (sym (same_is id (name x) e))
    turned false e = same_swap id (name x) e

    both : (a b : Bool) → list_any (same_id (name x)) removed ≡ a → same_id id (name x) ≡ b → list_any (same_id (name x)) (removed ++ id ∷ []) ≡ a || (b || false)
    both a b e f = list_any-append (same_id (name x)) removed (id ∷ []) ∙ ap (λ z. z || (same_id (name x) id || false)) e ∙ ap (λ z. a || (z || false)) (turned b f)

    by : (a b : Bool) → list_any (same_id (name x)) removed ≡ a → same_id id (name x) ≡ b → filter other (filter some xs) ≡ filter neither xs
        → filter other (cond (some x) (x ∷ filter some xs) (filter some xs)) ≡ cond (neither x) (x ∷ filter neither xs) (filter neither xs)
    by true b e f again = rw (e, both true b e f) again
    by false true e f again = rw (e, f, both false true e f) again
    by false false e f again = rw (e, f, both false false e f) (ap (λ z. x ∷ z) again)

level_more : (removed : List (List ℕ)) (id : List ℕ) (l : VoltageLevel) → level_without_equipment id (level_without removed l) ≡ level_without (removed ++ id ∷ []) l
unfolding level_without_equipment level_without
level_more removed id l = ap (λ z. record l { placed = z }) (left_more (λ (p : Placed). p.terminal.equipment) removed id l.placed)

branches_more : (removed : List (List ℕ)) (id : List ℕ) (bs : List NamedBranch) → without_branch id (branches_without removed bs) ≡ branches_without (removed ++ id ∷ []) bs
unfolding without_branch branches_without
branches_more removed id bs = left_more (λ (b : NamedBranch). b.id) removed id bs

all_stay : {X : Type 0} (name : X → List ℕ) (xs : List X) → filter (λ x. not (has_id [] (name x))) xs ≡ xs
unfolding has_id
all_stay name [] = refl
all_stay name (x ∷ xs) = ap (λ z. x ∷ z) (all_stay name xs)

map_alike : {X Y : Type 0} (f g : X → Y) (xs : List X) → ((x : X) → f x ≡ g x) → map f xs ≡ map g xs
map_alike f g [] h = refl
map_alike f g (x ∷ xs) h = rw (h x, map_alike f g xs h) refl

-- ---- states

-- the first state without some equipment
pub record Out (first : State) (removed : List (List ℕ)) (state : State) : Type 0 where
  pub levels_left : levels state.structure ≡ map (level_without removed) (levels first.structure)
  pub branches_left : branches state.structure ≡ branches_without removed (branches first.structure)
  pub sound : IsSound state.structure
  pub watts_left : (id : List ℕ) → has_id removed id ≡ false → value_in state.powers id ≡ value_in first.powers id

pub none_out : (state : State) → IsSound state.structure → Out state [] state
unfolding level_without branches_without
none_out state sound = record {
  levels_left = sym (same (levels state.structure));
  branches_left = sym (all_stay (λ (b : NamedBranch). b.id) (branches state.structure));
  sound = sound;
  watts_left = λ id h. refl;
}
  where
    same : (ls : List VoltageLevel) → map (level_without []) ls ≡ ls
    same [] = refl
    same (l ∷ ls) = rw (all_stay (λ (p : Placed). p.terminal.equipment) l.placed, same ls) refl

-- an equipment more
record Taken (state : State) (id : List ℕ) (new : State) : Type 0 where
  levels_are : levels new.structure ≡ map (level_without_equipment id) (levels state.structure)
  branches_are : branches new.structure ≡ without_branch id (branches state.structure)
  sound : IsSound new.structure
  opened : new.opened ≡ state.opened
  watts : (q : List ℕ) → same_id q id ≡ false → value_in new.powers q ≡ value_in state.powers q

accepted : (state : State) (id : List ℕ) (new : Network) → IsSound state.structure → apply state.structure (RemoveEquipment id) ≡ Ok new → Taken state id (edited state (RemoveEquipment id) (Ok new)).0
unfolding edited changed_state rows_after listed_after
accepted state id new sound e =
    let less = lessened state.structure new id e in
    record {
      levels_are = less.levels_left;
      branches_are = less.branches_left;
      sound = apply_sound state.structure new (RemoveEquipment id) e sound;
      opened = refl;
      watts = λ q h. value_without id q state.powers h;
    }

refusal : (net : Network) (id : List ℕ) (fault : EditFault) → apply net (RemoveEquipment id) ≡ Err fault → has_id (equipment_ids net) id ≡ false
unfolding apply
refusal net id fault e = by (has_id (equipment_ids net) id) refl
  where
    by : (t : Bool) → has_id (equipment_ids net) id ≡ t → t ≡ false
    by true q = let passes = rw q at e in cc
    by false q = refl

rejected : (state : State) (id : List ℕ) (fault : EditFault) → IsSound state.structure → apply state.structure (RemoveEquipment id) ≡ Err fault → Taken state id (edited state (RemoveEquipment id) (Err fault)).0
unfolding edited refused
rejected state id fault sound e =
    let none = refusal state.structure id fault e in
    record {
      levels_are = sym (none_gone state.structure id sound none);
      branches_are = sym (no_branch state.structure id none);
      sound = sound;
      opened = refl;
      watts = λ q h. refl;
    }

taken : (state : State) (id : List ℕ) → IsSound state.structure → Taken state id (solo state (Change (RemoveEquipment id))).0
unfolding solo
taken state id sound = by (apply state.structure (RemoveEquipment id)) refl
  where
    by : (r : Result Network EditFault) → apply state.structure (RemoveEquipment id) ≡ r → Taken state id (edited state (RemoveEquipment id) r).0
    by (Ok new) e = accepted state id new sound e
    by (Err fault) e = rejected state id fault sound e

apart_both : (removed : List (List ℕ)) (id q : List ℕ) → has_id (removed ++ id ∷ []) q ≡ false → (has_id removed q ≡ false) × (same_id q id ≡ false)
unfolding has_id
apart_both removed id q h = by (list_any (same_id q) removed) (same_id q id) (sym (list_any-append (same_id q) removed (id ∷ [])) ∙ h)
  where
    by : (a b : Bool) → a || (b || false) ≡ false → (a ≡ false) × (b ≡ false)
    by true b e = absurd (true≢false e)
    by false true e = absurd (true≢false e)
    by false false e = (refl, refl)

out_more : (first : State) (removed : List (List ℕ)) (state new : State) (id : List ℕ) → Out first removed state → Taken state id new → Out first (removed ++ id ∷ []) new
out_more first removed state new id o t = record {
  levels_left = t.levels_are ∙ ap (map (level_without_equipment id)) o.levels_left ∙ map_twice (level_without_equipment id) (level_without removed) (levels first.structure)
      ∙ map_alike (λ l. level_without_equipment id (level_without removed l)) (level_without (removed ++ id ∷ [])) (levels first.structure) (level_more removed id);
  branches_left = t.branches_are ∙ ap (without_branch id) o.branches_left ∙ branches_more removed id (branches first.structure);
  sound = t.sound;
  watts_left = λ q h. (let apart = apart_both removed id q h in t.watts q apart.1 ∙ o.watts_left q apart.0);
}

-- ---- a switch that is opened

open_row : (row : List Bool) (p : ℕ) → get_or row p false ≡ true → slice_set row p true ≡ row
open_row [] p h = absurd (false≢true h)
open_row (x ∷ row) zero h = ap (λ z. z ∷ row) (sym h)
open_row (x ∷ row) (suc p) h = ap (λ z. x ∷ z) (open_row row p h)

still_open : (rows : List (List Bool)) (k p : ℕ) → get_or (row_at rows k) p false ≡ true → with_flag rows k p true ≡ rows
unfolding with_flag with_row row_at
still_open rows k p h = set_same rows k (slice_set (get_or rows k []) p true) (open_row (get_or rows k []) p h)

-- the structure and the watts stay
record Opened (state : State) (k p : ℕ) (new : State) : Type 0 where
  structure : new.structure ≡ state.structure
  powers : new.powers ≡ state.powers
  opened : new.opened ≡ with_flag state.opened k p true

set_open : (state : State) (k p : ℕ) (now : Bool) → flag_at state.opened (k, p) ≡ now → Opened state k p (set_from state now true (with_opened state (k, p) true)).0
unfolding set_from with_opened flag_at
set_open state k p true e = record { structure = refl; powers = refl; opened = sym (still_open state.opened k p e) }
set_open state k p false e = record { structure = refl; powers = refl; opened = refl }

opens : (state : State) (id : List ℕ) (k p : ℕ) → find_switch state.structure id ≡ Some (k, p) → Opened state k p (solo state (OpenSwitch id)).0
opens state id k p e = subst (λ z. Opened state k p z.0) (sym (open_found state id (k, p) e)) (set_open state k p (flag_at state.opened (k, p)) refl)

out_same : (first : State) (removed : List (List ℕ)) (state new : State) (k p : ℕ) → Out first removed state → Opened state k p new → Out first removed new
out_same first removed state new k p o t = record {
  levels_left = ap levels t.structure ∙ o.levels_left;
  branches_left = ap branches t.structure ∙ o.branches_left;
  sound = subst IsSound (sym t.structure) o.sound;
  watts_left = λ q h. ap (λ z. value_in z q) t.powers ∙ o.watts_left q h;
}

-- switches are found where they were
pub found_alike : {A B : Type 0} (test : A → Option B) (f : A → A) (c : ℕ) (xs : List A) → ((x : A) → test (f x) ≡ test x) → first_found c test (map f xs) ≡ first_found c test xs
found_alike test f c [] h = refl
found_alike {A} {B} test f c (x ∷ xs) h = ap (chosen (first_found (c + 1) test (map f xs))) (h x) ∙ same (test x) (found_alike test f (c + 1) xs h)
  where
    chosen : Option (ℕ × B) → Option B → Option (ℕ × B)
    chosen rest o = elim o [ Some y ↦ Some (c, y) | None ↦ rest ]

    same : (o : Option B) → first_found (c + 1) test (map f xs) ≡ first_found (c + 1) test xs → chosen (first_found (c + 1) test (map f xs)) o ≡ chosen (first_found (c + 1) test xs) o
    same (Some y) e = refl
    same None e = e

switch_still : (first : State) (removed : List (List ℕ)) (state : State) (id : List ℕ) → Out first removed state → find_switch state.structure id ≡ find_switch first.structure id
unfolding find_switch level_without
switch_still first removed state id o =
    ap (first_found 0 (λ (l : VoltageLevel). position (λ (s : Switch). same_id id s.id) l.switches)) o.levels_left
    ∙ found_alike (λ (l : VoltageLevel). position (λ (s : Switch). same_id id s.id) l.switches) (level_without removed) 0 (levels first.structure) (λ l. refl)

-- ---- terminals that are taken out

fewer_mentions : (removed : List (List ℕ)) (id : List ℕ) (l : VoltageLevel) → mentions id (level_without removed l) ≡ true → mentions id l ≡ true
unfolding level_without
fewer_mentions removed id l h = over l.placed h
  where
    own : Placed → Bool
    own p = same_id id p.terminal.equipment

    keep : Placed → Bool
    keep p = not (has_id removed p.terminal.equipment)

    over : (ps : List Placed) → list_any own (filter keep ps) ≡ true → list_any own ps ≡ true
    over [] h = h
    over (p ∷ ps) h = by (keep p) h (over ps)
      where
        by : (t : Bool) → list_any own (cond t (p ∷ filter keep ps) (filter keep ps)) ≡ true → (list_any own (filter keep ps) ≡ true → list_any own ps ≡ true) → own p || list_any own ps ≡ true
        by true h again = elim (or_cases (own p) (list_any own (filter keep ps)) h) [ inl a ↦ or_left (own p) (list_any own ps) a | inr a ↦ or_right (own p) (list_any own ps) (again a) ]
        by false h again = or_right (own p) (list_any own ps) (again h)

level_back : (f : VoltageLevel → VoltageLevel) (ls : List VoltageLevel) (k : ℕ) (m : VoltageLevel) → slice_get (map f ls) k ≡ Some m → (l : VoltageLevel) × (slice_get ls k ≡ Some l) × (f l ≡ m)
level_back f [] k m at = cc
level_back f (l ∷ ls) zero m at = (l, refl, cc)
level_back f (l ∷ ls) (suc k) m at = level_back f ls k m at

abbrev level_of : Network → List ℕ → ℕ → Option ℕ
level_of net id side = option_map (λ (pair : ℕ × ℕ). pair.0) (site net id side)

at_side : (net : Network) (id : List ℕ) (k : ℕ) (t : Sited net id k) → is_at k (level_of net id 1) || (is_at k (level_of net id 2) || is_at k (level_of net id 3)) ≡ true
at_side net id k t = which (t.side == 1) (t.side == 2) refl refl
  where
    here : (side : ℕ) → t.side ≡ side → is_at k (level_of net id side) ≡ true
    here side e = ap (λ z. is_at k (option_map (λ (pair : ℕ × ℕ). pair.0) z)) (ap (site net id) (sym e) ∙ t.is) ∙ eq-eqb k k refl

    which : (a b : Bool) → (t.side == 1) ≡ a → (t.side == 2) ≡ b → is_at k (level_of net id 1) || (is_at k (level_of net id 2) || is_at k (level_of net id 3)) ≡ true
    which true b e f = or_left (is_at k (level_of net id 1)) _ (here 1 (eqb-true t.side 1 e))
    which false true e f = or_right (is_at k (level_of net id 1)) _ (or_left (is_at k (level_of net id 2)) (is_at k (level_of net id 3)) (here 2 (eqb-true t.side 2 f)))
    which false false e f =
        or_right (is_at k (level_of net id 1)) _ (or_right (is_at k (level_of net id 2)) (is_at k (level_of net id 3)) (here 3 (third t.side t.least t.most e f)))
      where
        third : (n : ℕ) → 1 ≤ n → n ≤ 3 → (n == 1) ≡ false → (n == 2) ≡ false → n ≡ 3
        third n low high e f = omega (arith, low, high, not_it n 1 e, not_it n 2 f)
          where
            not_it : (n m : ℕ) → (n == m) ≡ false → n ≢ m
            not_it n m e same = true≢false (sym (eq-eqb n m same) ∙ e)

pub all_taken : (first : State) (removed : List (List ℕ)) (state : State) (id : List ℕ) → IsSound first.structure → Out first removed state → taken_out first.structure id (levels state.structure) ≡ map (level_without_equipment id) (levels state.structure)
unfolding taken_out cleared_side
all_taken first removed state id sound o =
    all_cleared id (level_of first.structure id 1) (level_of first.structure id 2) (level_of first.structure id 3) (levels state.structure)
    (λ k m at h. let l = level_back (level_without removed) (levels first.structure) k m (ap (λ z. slice_get z k) (sym o.levels_left) ∙ at) in
    at_side first.structure id k (sited first.structure id k l.0 sound l.1 (fewer_mentions removed id l.0 (ap (mentions id) l.2 ∙ h))))

-- ---- both together

-- what the definition and the levels and rows by list come to
pub record Outcome (first state : State) (ls : List VoltageLevel) (rows : List (List Bool)) : Type 0 where
  pub removed : List (List ℕ)
  pub out : Out first removed state
  pub levels_are : ls ≡ levels state.structure
  pub rows_are : rows ≡ state.opened

one_more : (first state : State) (ls : List VoltageLevel) (rows : List (List Bool)) (id : List ℕ) → IsSound first.structure → Outcome first state ls rows
    → Outcome first (with_out first.structure state id) (levels_with_out first.structure ls id) (rows_with_out first.structure rows id)
unfolding with_out outage_request is_switch
one_more first state ls rows id sound o = by (find_switch first.structure id) refl
  where
    by : (at : Option (ℕ × ℕ)) → find_switch first.structure id ≡ at
        → Outcome first (solo state (if is_some (find_switch first.structure id) then OpenSwitch id else Change (RemoveEquipment id))).0 (levels_with_out first.structure ls id) (rows_with_out first.structure rows id)
    by (Some (k, p)) e =
        let found = switch_still first o.removed state id o.out ∙ e in
        let now = opens state id k p found in
        let words = switch_out first.structure id k p ls rows e in
        let chosen : solo state (if is_some (find_switch first.structure id) then OpenSwitch id else Change (RemoveEquipment id)) ≡ solo state (OpenSwitch id) = rw e refl in
        subst (λ z. Outcome first z.0 (levels_with_out first.structure ls id) (rows_with_out first.structure rows id)) (sym chosen) (record {
          removed = o.removed;
          out = out_same first o.removed state _ k p o.out now;
          levels_are = words.0 ∙ o.levels_are ∙ ap levels (sym now.structure);
          rows_are = words.1 ∙ ap (λ z. with_flag z k p true) o.rows_are ∙ sym now.opened;
        })
    by None e =
        let now = taken state id o.out.sound in
        let words = equipment_out first.structure id ls rows e in
        let chosen : solo state (if is_some (find_switch first.structure id) then OpenSwitch id else Change (RemoveEquipment id)) ≡ solo state (Change (RemoveEquipment id)) = rw e refl in
        subst (λ z. Outcome first z.0 (levels_with_out first.structure ls id) (rows_with_out first.structure rows id)) (sym chosen) (record {
          removed = o.removed ++ id ∷ [];
          out = out_more first o.removed state _ id o.out now;
          levels_are = words.0 ∙ ap (taken_out first.structure id) o.levels_are ∙ all_taken first o.removed state id sound o.out ∙ sym now.levels_are;
          rows_are = words.1 ∙ o.rows_are ∙ sym now.opened;
        })

pub all_more : (first state : State) (ls : List VoltageLevel) (rows : List (List Bool)) (ids : List (List ℕ)) → IsSound first.structure → Outcome first state ls rows
    → Outcome first (fold (with_out first.structure) state ids) (fold (levels_with_out first.structure) ls ids) (fold (rows_with_out first.structure) rows ids)
all_more first state ls rows [] sound o = o
all_more first state ls rows (id ∷ ids) sound o = all_more first (with_out first.structure state id) (levels_with_out first.structure ls id) (rows_with_out first.structure rows id) ids sound (one_more first state ls rows id sound o)

-- ---- the buses of a state

watts_same : (a b : Listed) (removed : List (List ℕ)) (ps : List Placed) → ((id : List ℕ) → has_id removed id ≡ false → value_in a id ≡ value_in b id)
    → map (watts_at a) (filter (λ (p : Placed). not (has_id removed p.terminal.equipment)) ps) ≡ map (watts_at b) (filter (λ (p : Placed). not (has_id removed p.terminal.equipment)) ps)
unfolding watts_at watts_for
watts_same a b removed [] h = refl
watts_same a b removed (p ∷ ps) h = by (has_id removed p.terminal.equipment) refl (watts_same a b removed ps h)
  where
    keep : Placed → Bool
    keep p = not (has_id removed p.terminal.equipment)

    by : (t : Bool) → has_id removed p.terminal.equipment ≡ t → map (watts_at a) (filter keep ps) ≡ map (watts_at b) (filter keep ps) → map (watts_at a) (cond (not t) (p ∷ filter keep ps) (filter keep ps)) ≡ map (watts_at b) (cond (not t) (p ∷ filter keep ps) (filter keep ps))
    by true e again = again
    by false e again = rw (h p.terminal.equipment e, again) refl

level_watts_same : (a b : Listed) (removed : List (List ℕ)) (l : VoltageLevel) → ((id : List ℕ) → has_id removed id ≡ false → value_in a id ≡ value_in b id) → level_watts a (level_without removed l) ≡ level_watts b (level_without removed l)
unfolding level_watts level_without
level_watts_same a b removed l h = watts_same a b removed l.placed h

blocks_alike : {Y : Type 0} (g h : ℕ × VoltageLevel → List Y) (f : VoltageLevel → VoltageLevel) (low : ℕ) (ls : List VoltageLevel) → ((n : ℕ) (l : VoltageLevel) → g (n, f l) ≡ h (n, f l)) → flat_map g (enumerate_from low (map f ls)) ≡ flat_map h (enumerate_from low (map f ls))
blocks_alike g h f low [] e = refl
blocks_alike g h f low (l ∷ ls) e = rw (e low l, blocks_alike g h f (low + 1) ls e) refl

pub buses_of_state : (first : State) (removed : List (List ℕ)) (state : State) → Out first removed state → state_buses state ≡ buses_over first.powers (levels state.structure) state.opened
unfolding state_buses level_buses buses_over buses_under positioned_at
buses_of_state first removed state o =
    let g = λ (at : ℕ × VoltageLevel). map (λ b. (at.0, b)) (bus_view_at state at.0 at.1).buses in
    let h = λ (at : ℕ × VoltageLevel). map (λ b. (at.0, b)) (bus_view_of (positioned at.1 (row_at state.opened at.0)) (level_watts first.powers at.1)).buses in
    let f = level_without removed in
    let each = λ (n : ℕ) (l : VoltageLevel). ap (λ z. map (λ b. (n, b)) z.buses) (bus_view-positioned state n (f l) ∙ ap (bus_view_of (positioned (f l) (row_at state.opened n))) (level_watts_same state.powers first.powers removed l o.watts_left)) in
    ap (λ z. flat_map g (enumerate_from 0 z)) o.levels_left ∙ blocks_alike g h f 0 (levels first.structure) each ∙ ap (λ z. flat_map h (enumerate_from 0 z)) (sym o.levels_left)
