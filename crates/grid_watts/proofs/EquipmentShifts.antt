-- By how much a sum changes where an equipment is removed, or gets other watts.
use Rattle.std.proofs.Common.{◌≡◌, refl, sym, ap, ◌∙◌, subst, ℕ, ℤ, pos, ◌≤◌, Bool, true, false, cond, not, List, [], ◌∷◌, ◌++◌, arith, Option, Some}
use Rattle.std.specs.Prelude.{◌+ℤ◌, neg_ℤ, map, find, unwrap_or, Ok}
use Rattle.std.proofs.lemmas.Bool.{and_parts}
use Rattle.std.proofs.lemmas.Int.{ints}
use Rattle.std.proofs.lemmas.List.Elements.{filter-append}
use Rattle.grid_ids.specs.Name.{same_id, has_id}
use Rattle.grid_ids.specs.Refusing.{refuse_if}
use Rattle.grid_ids.proofs.Alike.{same_is, same_swap}
use Rattle.grid_level.specs.declared.Placed.{Placed}
use Rattle.grid_level.specs.VoltageLevel.{VoltageLevel}
use Rattle.grid_level.specs.LevelEdits.{level_without_equipment}
use Rattle.grid_level.proofs.LevelEdits as on_level
use Rattle.grid_structure.specs.Network.{Network, Substation}
use Rattle.grid_structure.specs.Sites.{levels, equipment_ids}
use Rattle.grid_structure.specs.Editing.{apply, with_levels, substation_without}
use Rattle.grid_structure.specs.declared.Edit.{Edit}
use Rattle.grid_structure.specs.declared.Edit.TheVariants as edits
use Rattle.grid_structure.specs.declared.EditFault.TheVariants as faults
use Rattle.grid_structure.specs.Soundness.{IsSound}
use Rattle.grid_structure.proofs.Counts.{times}
use Rattle.grid_structure.proofs.Frames.{locals}
use Rattle.grid_structure.proofs.Levels.{levels-with_levels}
use Rattle.grid_structure.proofs.OneLevel.{names_of}
use Rattle.grid_structure.proofs.Uniquely.{local_once}
use Rattle.grid_structure.proofs.SoundRemovals.{dropped}
use Rattle.grid_structure.proofs.NameCounts.{names_both}
use Rattle.grid_powers.specs.Listed.{Listed, value_in, with_value, without_value}
use Rattle.grid_powers.proofs.ListedValues.{value_without, value_with-other, value_with-own}
use Rattle.grid_busview.specs.Views.{stand_watts}
use Rattle.grid_watts.specs.Watts.{watts_at, watts_for, is_powered, powered, powered_by, terminals}
use Rattle.grid_watts.specs.Moved.{leaves_rows}
use Rattle.grid_watts.specs.Shares.{Part, own_part, set_part, edit_part, listed_after}
use Rattle.grid_watts.proofs.TerminalSums.{summed, adds, all_placed, whole}
use Rattle.grid_watts.proofs.EquipmentShares.{IsPart, others, split, others_alike, owned_found}
use Rattle.grid_watts.proofs.EditShifts.{substations_alike, level_stays, injection_brings, edit_stays}

-- ---- each id stands under at most one single

pub names_within : (id : List ℕ) (ls : List VoltageLevel) → times id (names_of (all_placed ls)) ≤ locals id ls
names_within id [] = omega arith
names_within id (l ∷ ls) = omega (arith, names_both id l.placed (all_placed ls), names_within id ls)

pub names_once : (net : Network) (id : List ℕ) → IsSound net → times id (names_of (all_placed (levels net))) ≤ 1
names_once net id s = omega (arith, names_within id (levels net), local_once net id s)

-- a sum in two parts: what the equipment of an id adds, and what the others add
apart : (part : Part) (net : Network) (listed : Listed) (id : List ℕ) → IsPart part → IsSound net
    → whole part net listed ≡ own_part part listed (powered net id) +ℤ summed (adds part listed) (others id (all_placed (levels net)))
unfolding powered terminals
apart part net listed id only s =
    let f = adds part listed in
    let ps = all_placed (levels net) in
    let own = owned_found part listed id ps only (names_once net id s) in
    split f id ps ∙ ap (λ z. z +ℤ summed f (others id ps)) own

-- ---- removed

left : (id : List ℕ) (ls : List VoltageLevel) → all_placed (map (level_without_equipment id) ls) ≡ others id (all_placed ls)
unfolding level_without_equipment
left id [] = refl
left id (l ∷ ls) = ap (λ z. others id l.placed ++ z) (left id ls) ∙ sym (filter-append (λ (p : Placed). not (same_id id p.terminal.equipment)) l.placed (all_placed ls))

others_keep : (part : Part) (listed : Listed) (id : List ℕ) (p : Placed) → same_id id p.terminal.equipment ≡ false → adds part (without_value id listed) p ≡ adds part listed p
unfolding watts_at watts_for
others_keep part listed id p e =
    ap (λ v. part p.stand (cond (is_powered p.stand) (unwrap_or v (stand_watts p.stand)) (pos 0))) (value_without id p.terminal.equipment listed (same_swap id p.terminal.equipment e))

substation_same : (id : List ℕ) (s : Substation) → all_placed (substation_without id s).levels ≡ all_placed s.levels
unfolding substation_without
substation_same id s = refl

pub removed_takes : (part : Part) (net new : Network) (id : List ℕ) (listed : Listed) → IsPart part → IsSound net → apply net (edits.RemoveEquipment id) ≡ Ok new
    → whole part new (without_value id listed) ≡ whole part net listed +ℤ neg_ℤ (own_part part listed (powered net id))
unfolding apply levels
removed_takes part net new id listed only s h =
    let t = on_level.went (refuse_if (not (has_id (equipment_ids net) id)) faults.NoSuchId) _ new h in
    let cleared = with_levels (level_without_equipment id) net in
    let is : dropped id cleared ≡ new = cc (t.next) in
    let less = without_value id listed in
    let f = adds part less in
    let stay : all_placed (levels (dropped id cleared)) ≡ all_placed (levels cleared) = substations_alike (substation_without id) (substation_same id) cleared.substations in
    let lists : all_placed (levels (dropped id cleared)) ≡ others id (all_placed (levels net)) = stay ∙ ap all_placed (levels-with_levels (level_without_equipment id) net) ∙ left id (levels net) in
    let sum : whole part (dropped id cleared) less ≡ summed (adds part listed) (others id (all_placed (levels net))) =
    ap (summed f) lists ∙ others_alike f (adds part listed) id (all_placed (levels net)) (others_keep part listed id) in
    let parts = apart part net listed id only s in
    let done : whole part (dropped id cleared) less ≡ whole part net listed +ℤ neg_ℤ (own_part part listed (powered net id)) = omega (arith, ints, sum, parts) in
    subst (λ (z : Network). whole part z less ≡ whole part net listed +ℤ neg_ℤ (own_part part listed (powered net id))) is done

-- ---- other watts

pub found_passes : (test : Placed → Bool) (ps : List Placed) (p : Placed) → find test ps ≡ Some p → test p ≡ true
found_passes test [] p h = cc
found_passes test (x ∷ ps) p h = by (test x) refl h (found_passes test ps p)
  where
    by : (t : Bool) → test x ≡ t → ◌≡◌ {A = Option Placed} (cond t (Some x) (find test ps)) (Some p) → (find test ps ≡ Some p → test p ≡ true) → test p ≡ true
    by true e h again = let same : x ≡ p = cc in rw (← same) e
    by false e h again = again h

-- what is found under an id
pub record Powered (id : List ℕ) (p : Placed) : Type 0 where
  pub named : id ≡ p.terminal.equipment
  pub is_one : is_powered p.stand ≡ true

pub found_powered : (net : Network) (id : List ℕ) (p : Placed) → powered net id ≡ Some p → Powered id p
unfolding powered
found_powered net id p h =
    let parts = and_parts (same_id id p.terminal.equipment) (is_powered p.stand) (found_passes (powered_by id) (terminals net) p h) in
    record { named = same_is id p.terminal.equipment parts.0; is_one = parts.1 }

-- a value that is listed stands for the record's
watts_listed : (id : List ℕ) (p : Placed) (watts : ℤ) (listed : Listed) → Powered id p → watts_at (with_value id watts listed) p ≡ watts
unfolding watts_at watts_for
watts_listed id p watts listed k =
    let own : value_in (with_value id watts listed) p.terminal.equipment ≡ Some watts = ap (value_in (with_value id watts listed)) (sym k.named) ∙ value_with-own id watts listed in
    ap (λ v. cond (is_powered p.stand) (unwrap_or v (stand_watts p.stand)) (pos 0)) own ∙ ap (λ t. cond t watts (pos 0)) k.is_one

others_stay : (part : Part) (listed : Listed) (id : List ℕ) (watts : ℤ) (p : Placed) → same_id id p.terminal.equipment ≡ false → adds part (with_value id watts listed) p ≡ adds part listed p
unfolding watts_at watts_for
others_stay part listed id watts p e =
    ap (λ v. part p.stand (cond (is_powered p.stand) (unwrap_or v (stand_watts p.stand)) (pos 0))) (value_with-other id p.terminal.equipment watts listed (same_swap id p.terminal.equipment e))

pub set_moves : (part : Part) (net : Network) (id : List ℕ) (p : Placed) (watts : ℤ) (listed : Listed) → IsPart part → IsSound net → powered net id ≡ Some p
    → whole part net (with_value id watts listed) ≡ whole part net listed +ℤ set_part part listed watts p
unfolding own_part set_part
set_moves part net id p watts listed only s h =
    let more = with_value id watts listed in
    let ps = all_placed (levels net) in
    let a : whole part net more ≡ part p.stand (watts_at more p) +ℤ summed (adds part more) (others id ps) = apart part net more id only s ∙ ap (λ o. own_part part more o +ℤ summed (adds part more) (others id ps)) h in
    let b : whole part net listed ≡ part p.stand (watts_at listed p) +ℤ summed (adds part listed) (others id ps) = apart part net listed id only s ∙ ap (λ o. own_part part listed o +ℤ summed (adds part listed) (others id ps)) h in
    let c : summed (adds part more) (others id ps) ≡ summed (adds part listed) (others id ps) = others_alike (adds part more) (adds part listed) id ps (others_stay part listed id watts) in
    let d : part p.stand (watts_at more p) ≡ part p.stand watts = ap (part p.stand) (watts_listed id p watts listed (found_powered net id p h)) in
    omega (arith, ints, a, b, c, d)

-- ---- every edit

pub edit_moves : (part : Part) (net new : Network) (edit : Edit) (listed : Listed) → IsPart part → IsSound net → apply net edit ≡ Ok new
    → whole part new (listed_after edit listed) ≡ whole part net listed +ℤ edit_part part net listed edit
unfolding edit_part listed_after leaves_rows
edit_moves part net new (edits.AddLevel id substation nominal_v low_v high_v) listed only s h = level_stays part net new id substation nominal_v low_v high_v listed h
edit_moves part net new (edits.AddInjection id level node item) listed only s h = injection_brings part net new id level node item listed s h
edit_moves part net new (edits.RemoveEquipment id) listed only s h = removed_takes part net new id listed only s h
edit_moves part net new other listed only s h = edit_stays part net new other listed only s h refl
