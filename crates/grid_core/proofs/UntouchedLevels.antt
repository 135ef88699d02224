-- The levels that an edit leaves as they are.
use Rattle.std.proofs.Common.{◌≡◌, refl, sym, ap, ◌∙◌, subst, ℕ, ℤ, ◌≤◌, Bool, true, false, cond, not, List, [], ◌∷◌, length, arith, Option, Some, None}
use Rattle.std.specs.Prelude.{slice_get, nat_le, Result, Ok, Err}
use Rattle.std.specs.Option.{option_map}
use Rattle.std.proofs.lemmas.Option.{slice_get-map}
use Rattle.grid_lemmas.proofs.Lists.{get_other}
use Rattle.grid_ids.specs.Name.{same_id, has_id}
use Rattle.grid_ids.specs.Refusing.{refuse_if, refuse_by, found_or, map_fault}
use Rattle.grid_ids.proofs.Alike.{same_is}
use Rattle.grid_kinds.specs.declared.SwitchKind.{SwitchKind}
use Rattle.grid_kinds.specs.declared.Injection.{Injection}
use Rattle.grid_kinds.specs.Records.{injection_fault}
use Rattle.grid_level.specs.declared.Stand.TheVariants.{Busbar, Feeder, BranchEnd}
use Rattle.grid_level.specs.VoltageLevel.{VoltageLevel}
use Rattle.grid_level.specs.LevelEdits.{level_with_switch, level_with_internal, level_without_internal, level_with_terminal}
use Rattle.grid_level.proofs.LevelEdits as on_level
use Rattle.grid_structure.specs.declared.Branch.{Branch}
use Rattle.grid_structure.specs.declared.Branch.TheVariants.{Line, TwoWindings, ThreeWindings}
use Rattle.grid_structure.specs.declared.End.{End}
use Rattle.grid_structure.specs.declared.Edit.TheVariants as edits
use Rattle.grid_structure.specs.declared.EditFault.{EditFault}
use Rattle.grid_structure.specs.declared.EditFault.TheVariants as faults
use Rattle.grid_structure.specs.Network.{Network}
use Rattle.grid_structure.specs.Sites.{levels, switches, level_named, find_level, find_switch, switch_ids, all_ids, taken, branch_ends, home_of}
use Rattle.grid_structure.specs.Editing as editing
use Rattle.grid_structure.specs.Editing.{apply, edit_fault, with_levels, with_branch, level_without_switch, in_home, place_end, place_ends, refuse_home, max_switches}
use Rattle.grid_structure.specs.Soundness.{IsSound}
use Rattle.grid_structure.proofs.Counts.{differ-times}
use Rattle.grid_structure.proofs.Levels.{levels-with_levels}
use Rattle.grid_structure.proofs.Frames.{put, ids_counted, locals}
use Rattle.grid_structure.proofs.OneLevel.{found, fits}
use Rattle.grid_structure.proofs.ListOfLevels.{level_at}
use Rattle.grid_structure.proofs.SwitchRemovals.{lost_at}
use Rattle.grid_structure.proofs.Uniquely.{one_place}
use Rattle.grid_requests.specs.Changes.{changed_or}
use Rattle.grid_islands.specs.Kept.{LeavesOthers}
use Rattle.grid_core.specs.declared.touched.Touched.{Touched}
use Rattle.grid_core.specs.declared.touched.Touched.TheVariants as touches
use Rattle.grid_core.specs.Touched.{LeavesAllBut, IsTouch, IsLevelOf, IsLevelOfSwitch, AreLevelsOfEnds, AreLevelsOfSides}
use Rattle.grid_core.proofs.EquipmentLevels.{equipment_leaves}
use Rattle.grid_core.proofs.SwitchCounts.{position_alike}
use Rattle.grid_core.proofs.Fits.{Once, sound-once, with_terminal-stays, with_internal-stays, without_internal-stays, with_switch-gains, end-alike, once-alike, levels-with_branch, spot-of}

-- ---- one level

-- a level that is put in the place of the one of its id leaves the others
put_leaves : (net : Network) (level : List ℕ) (old new : VoltageLevel) (place : ℕ) → Once (levels net) → level_named net level ≡ Some old → new.id ≡ old.id → find_level net level ≡ Some place
    → LeavesOthers net (editing.with_level new net) place
unfolding editing.with_level
put_leaves net level old new place once named id at other differs =
    ap (λ (ls : List VoltageLevel). slice_get ls other) (levels-with_levels (put new) net) ∙ slice_get-map (put new) (levels net) other ∙ by (slice_get (levels net) other) refl
  where
    here : slice_get (levels net) place ≡ Some old
    here = let found_at = level_at net level old named in let same : found_at.0 ≡ place = cc (found_at.1, at) in ap (slice_get (levels net)) (sym same) ∙ found_at.2

    stays : (l : VoltageLevel) (t : Bool) → slice_get (levels net) other ≡ Some l → same_id new.id l.id ≡ t → ◌≡◌ {A = Option VoltageLevel} (Some (cond t new l)) (Some l)
    stays l true e t = absurd (differs (one_place (levels net) other place l old (once l.id) e here (sym (same_is new.id l.id t) ∙ id)))
    stays l false e t = refl

    by : (o : Option VoltageLevel) → slice_get (levels net) other ≡ o → option_map (put new) o ≡ o
    by (Some l) e = stays l (same_id new.id l.id) e refl
    by None e = refl

-- ---- the edits of one level

busbar_leaves : (net new : Network) (id level : List ℕ) (node : ℤ) (place : ℕ) → Once (levels net) → find_level net level ≡ Some place → apply net (edits.AddBusbar id level node) ≡ Ok new → LeavesOthers net new place
unfolding apply
busbar_leaves net new id level node place once at h =
    let t = on_level.went (refuse_if (taken net id) faults.IdTaken) _ new h in
    let o = on_level.went (found_or (level_named net level) faults.NoLevel) _ new t.next in
    let w = on_level.went (map_fault edit_fault (level_with_terminal o.value node (record { equipment = id; side = 1 }) Busbar)) _ new o.next in
    let same : editing.with_level w.value net ≡ new = cc (w.next) in
    subst (λ (z : Network). LeavesOthers net z place) same
    (put_leaves net level o.value w.value place once (found _ _ _ o.is) (with_terminal-stays o.value w.value node _ Busbar (fits _ _ _ w.is)).id at)

switch_leaves : (net new : Network) (id level : List ℕ) (kind : SwitchKind) (node1 node2 : ℤ) (opened retained fictitious : Bool) (place : ℕ) → Once (levels net) → find_level net level ≡ Some place
    → apply net (edits.AddSwitch id level kind node1 node2 opened retained fictitious) ≡ Ok new → LeavesOthers net new place
unfolding apply
switch_leaves net new id level kind node1 node2 opened retained fictitious place once at h =
    let t = on_level.went (refuse_if (taken net id) faults.IdTaken) _ new h in
    let o = on_level.went (found_or (level_named net level) faults.NoLevel) _ new t.next in
    let m = on_level.went (refuse_if (nat_le max_switches (length (switches net))) faults.TooManySwitches) _ new o.next in
    let w = on_level.went (map_fault edit_fault (level_with_switch o.value id kind node1 node2 opened retained fictitious)) _ new m.next in
    let same : editing.with_level w.value net ≡ new = cc (w.next) in
    subst (λ (z : Network). LeavesOthers net z place) same
    (put_leaves net level o.value w.value place once (found _ _ _ o.is) (with_switch-gains o.value w.value id kind node1 node2 opened retained fictitious (fits _ _ _ w.is)).id at)

injection_leaves : (net new : Network) (id level : List ℕ) (node : ℤ) (item : Injection) (place : ℕ) → Once (levels net) → find_level net level ≡ Some place → apply net (edits.AddInjection id level node item) ≡ Ok new
    → LeavesOthers net new place
unfolding apply
injection_leaves net new id level node item place once at h =
    let t = on_level.went (refuse_if (taken net id) faults.IdTaken) _ new h in
    let o = on_level.went (found_or (level_named net level) faults.NoLevel) _ new t.next in
    let c = on_level.went (refuse_by faults.Check (injection_fault item)) _ new o.next in
    let w = on_level.went (map_fault edit_fault (level_with_terminal o.value node (record { equipment = id; side = 1 }) (Feeder item))) _ new c.next in
    let same : editing.with_level w.value net ≡ new = cc (w.next) in
    subst (λ (z : Network). LeavesOthers net z place) same
    (put_leaves net level o.value w.value place once (found _ _ _ o.is) (with_terminal-stays o.value w.value node _ (Feeder item) (fits _ _ _ w.is)).id at)

internal_leaves : (net new : Network) (level : List ℕ) (node1 node2 : ℤ) (place : ℕ) → Once (levels net) → find_level net level ≡ Some place → apply net (edits.AddInternal level node1 node2) ≡ Ok new → LeavesOthers net new place
unfolding apply
internal_leaves net new level node1 node2 place once at h =
    let o = on_level.went (found_or (level_named net level) faults.NoLevel) _ new h in
    let w = on_level.went (map_fault edit_fault (level_with_internal o.value node1 node2)) _ new o.next in
    let same : editing.with_level w.value net ≡ new = cc (w.next) in
    subst (λ (z : Network). LeavesOthers net z place) same
    (put_leaves net level o.value w.value place once (found _ _ _ o.is) (with_internal-stays o.value w.value node1 node2 (fits _ _ _ w.is)).id at)

cut_leaves : (net new : Network) (level : List ℕ) (node1 node2 : ℤ) (place : ℕ) → Once (levels net) → find_level net level ≡ Some place → apply net (edits.RemoveInternal level node1 node2) ≡ Ok new → LeavesOthers net new place
unfolding apply
cut_leaves net new level node1 node2 place once at h =
    let o = on_level.went (found_or (level_named net level) faults.NoLevel) _ new h in
    let w = on_level.went (map_fault edit_fault (level_without_internal o.value node1 node2)) _ new o.next in
    let same : editing.with_level w.value net ≡ new = cc (w.next) in
    subst (λ (z : Network). LeavesOthers net z place) same
    (put_leaves net level o.value w.value place once (found _ _ _ o.is) (without_internal-stays o.value w.value node1 node2 (fits _ _ _ w.is)).id at)

removed_leaves : (net new : Network) (id : List ℕ) (place own : ℕ) → IsSound net → find_switch net id ≡ Some (place, own) → apply net (edits.RemoveSwitch id) ≡ Ok new → LeavesOthers net new place
unfolding apply
removed_leaves net new id place own s at h other differs =
    let t = on_level.went (refuse_if (not (has_id (switch_ids net) id)) faults.NoSuchId) _ new h in
    let same : with_levels (level_without_switch id) net ≡ new = cc (t.next) in
    let spot = spot-of net id (there (has_id (switch_ids net) id) (on_level.not_refused _ _ _ t.is)) in
    let once : locals id (levels net) ≤ 1 = omega (arith, ids_counted id net, differ-times (all_ids net) s.ids id) in
    let lost = lost_at id (levels net) spot.level spot.place spot.old once spot.at spot.there in
    let pair : ◌≡◌ {A = ℕ × ℕ} (spot.level, spot.place) (place, own) = cc (spot.is, at) in
    let here : spot.level ≡ place = ap (λ (z : ℕ × ℕ). z.0) pair in
    ap (λ (z : Network). slice_get (levels z) other) (sym same) ∙ ap (λ (ls : List VoltageLevel). slice_get ls other) (levels-with_levels (level_without_switch id) net ∙ lost.0)
    ∙ get_other (levels net) spot.level other _ (λ e. differs (sym e ∙ here))
  where
    there : (b : Bool) → not b ≡ false → b ≡ true
    there true h = refl
    there false h = cc

-- ---- a branch

end_leaves : (home : Option (List ℕ)) (id : List ℕ) (side : ℕ) (end : End) (net new : Network) (place : ℕ) → Once (levels net) → find_level net end.level ≡ Some place → place_end home id side end net ≡ Ok new → LeavesOthers net new place
unfolding place_end
end_leaves home id side end net new place once at h =
    let o = on_level.went (found_or (level_named net end.level) faults.NoLevel) _ new h in
    let t = on_level.went (refuse_if (not (in_home net home end.level)) (faults.OtherSubstation side)) _ new o.next in
    let w = on_level.went (map_fault edit_fault (level_with_terminal o.value end.node (record { equipment = id; side = side }) BranchEnd)) _ new t.next in
    let same : editing.with_level w.value net ≡ new = cc (w.next) in
    subst (λ (z : Network). LeavesOthers net z place) same
    (put_leaves net end.level o.value w.value place once (found _ _ _ o.is) (with_terminal-stays o.value w.value end.node _ BranchEnd (fits _ _ _ w.is)).id at)

-- an end that was placed leaves each level at its place
record Placed (net new : Network) (place : ℕ) : Type 0 where
  others : LeavesOthers net new place
  once : Once (levels new)
  found : (id : List ℕ) (k : ℕ) → find_level net id ≡ Some k → find_level new id ≡ Some k

placed : (home : Option (List ℕ)) (id : List ℕ) (side : ℕ) (end : End) (net new : Network) (place : ℕ) → Once (levels net) → find_level net end.level ≡ Some place → place_end home id side end net ≡ Ok new → Placed net new place
unfolding find_level
placed home id side end net new place once at h =
    let alike = end-alike home id side end net new once h in
    record {
      others = end_leaves home id side end net new place once at h;
      once = once-alike (levels net) (levels new) alike once;
      found = λ id k e. position_alike id (levels new) (levels net) alike.ids ∙ e;
    }

same_levels : (net two next : Network) (place : ℕ) → levels next ≡ levels two → LeavesOthers two next place
same_levels net two next place same other differs = ap (λ (ls : List VoltageLevel). slice_get ls other) same

two_ends : (home : Option (List ℕ)) (id : List ℕ) (end1 end2 : End) (net new next : Network) (first second : ℕ) → Once (levels net) → find_level net end1.level ≡ Some first → find_level net end2.level ≡ Some second
    → place_ends home id 1 (end1 ∷ end2 ∷ []) net ≡ Ok new → levels next ≡ levels new → LeavesAllBut net next first second second
unfolding place_ends
two_ends home id end1 end2 net new next first second once at1 at2 h same =
    let a = on_level.went (place_end home id 1 end1 net) _ new h in
    let b = on_level.went (place_end home id 2 end2 a.value) _ new a.next in
    let p = placed home id 1 end1 net a.value first once at1 a.is in
    let q = placed home id 2 end2 a.value b.value second p.once (p.found end2.level second at2) b.is in
    let is : b.value ≡ new = cc (b.next) in
    (a.value, b.value, p.others, q.others, same_levels net b.value next second (same ∙ ap (λ (n : Network). levels n) (sym is)))

three_ends : (home : Option (List ℕ)) (id : List ℕ) (end1 end2 end3 : End) (net new next : Network) (first second third : ℕ) → Once (levels net) → find_level net end1.level ≡ Some first → find_level net end2.level ≡ Some second
    → find_level net end3.level ≡ Some third → place_ends home id 1 (end1 ∷ end2 ∷ end3 ∷ []) net ≡ Ok new → levels next ≡ levels new → LeavesAllBut net next first second third
unfolding place_ends
three_ends home id end1 end2 end3 net new next first second third once at1 at2 at3 h same =
    let a = on_level.went (place_end home id 1 end1 net) _ new h in
    let b = on_level.went (place_end home id 2 end2 a.value) _ new a.next in
    let c = on_level.went (place_end home id 3 end3 b.value) _ new b.next in
    let p = placed home id 1 end1 net a.value first once at1 a.is in
    let q = placed home id 2 end2 a.value b.value second p.once (p.found end2.level second at2) b.is in
    let r = placed home id 3 end3 b.value c.value third q.once (q.found end3.level third (p.found end3.level third at3)) c.is in
    let is : c.value ≡ new = cc (c.next) in
    let last : levels next ≡ levels c.value = same ∙ ap (λ (n : Network). levels n) (sym is) in
    (a.value, b.value, p.others, q.others, λ other differs. ap (λ (ls : List VoltageLevel). slice_get ls other) last ∙ r.others other differs)

ends_leave : (net new made : Network) (id : List ℕ) (shape : Branch) (touched : Touched) → Once (levels net) → AreLevelsOfEnds net shape touched → place_ends (home_of shape) id 1 (branch_ends shape) net ≡ Ok made → levels new ≡ levels made
    → IsTouch net new touched
unfolding branch_ends home_of
ends_leave net new made id (Line end1 end2) (touches.Ends first second third) once are h is =
    subst (λ k. LeavesAllBut net new first second k) (let same : second ≡ third = cc (are.1, are.2) in same) (two_ends None id end1 end2 net made new first second once are.0 are.1 h is)
ends_leave net new made id (TwoWindings substation end1 end2 u v) (touches.Ends first second third) once are h is =
    subst (λ k. LeavesAllBut net new first second k) (let same : second ≡ third = cc (are.1, are.2) in same) (two_ends (Some substation) id end1 end2 net made new first second once are.0 are.1 h is)
ends_leave net new made id (ThreeWindings substation end1 end2 end3 u v z) (touches.Ends first second third) once are h is =
    three_ends (Some substation) id end1 end2 end3 net made new first second third once are.0 are.1 are.2 h is
ends_leave net new made id shape touches.All once are h is = tt
ends_leave net new made id (Line end1 end2) (touches.Level place) once are h is = absurd are
ends_leave net new made id (TwoWindings substation end1 end2 u v) (touches.Level place) once are h is = absurd are
ends_leave net new made id (ThreeWindings substation end1 end2 end3 u v z) (touches.Level place) once are h is = absurd are

branch_leaves : (net new : Network) (id : List ℕ) (shape : Branch) (touched : Touched) → Once (levels net) → AreLevelsOfEnds net shape touched → apply net (edits.AddBranch id shape) ≡ Ok new → IsTouch net new touched
unfolding apply
branch_leaves net new id shape touched once are h =
    let t = on_level.went (refuse_if (taken net id) faults.IdTaken) _ new h in
    let r = on_level.went (refuse_home net shape) _ new t.next in
    let w = on_level.went (place_ends (home_of shape) id 1 (branch_ends shape) net) _ new r.next in
    let same : with_branch (record { id = id; shape = shape }) (home_of shape) w.value ≡ new = cc (w.next) in
    let is : levels new ≡ levels w.value = ap (λ (n : Network). levels n) (sym same) ∙ levels-with_branch (record { id = id; shape = shape }) (home_of shape) w.value in
    ends_leave net new w.value id shape touched once are w.is is

-- ---- whether it is accepted or not

same_touch : (net : Network) (touched : Touched) → IsTouch net net touched
same_touch net (touches.Level place) = λ other differs. refl
same_touch net (touches.Ends first second third) = (net, net, (λ other differs. refl), (λ other differs. refl), λ other differs. refl)
same_touch net touches.All = tt

if_made : (net : Network) (touched : Touched) (r : Result Network EditFault) → ((new : Network) → r ≡ Ok new → IsTouch net new touched) → IsTouch net (changed_or net r) touched
unfolding changed_or
if_made net touched (Ok new) made = made new refl
if_made net touched (Err fault) made = same_touch net touched

-- an edit of the level of an id
of_level : (net : Network) (level : List ℕ) (touched : Touched) (r : Result Network EditFault) → IsLevelOf net level touched → ((place : ℕ) (new : Network) → find_level net level ≡ Some place → r ≡ Ok new → LeavesOthers net new place)
    → IsTouch net (changed_or net r) touched
of_level net level (touches.Level place) r is made = if_made net (touches.Level place) r (λ new e. made place new is e)
of_level net level (touches.Ends first second third) r is made = absurd is
of_level net level touches.All r is made = tt

module _ (net : Network) (s : IsSound net) where
  pub busbar_touch : (id level : List ℕ) (node : ℤ) (touched : Touched) → IsLevelOf net level touched → IsTouch net (changed_or net (apply net (edits.AddBusbar id level node))) touched
  busbar_touch id level node touched is = of_level net level touched _ is (λ place new at e. busbar_leaves net new id level node place (sound-once net s) at e)

  pub switch_touch : (id level : List ℕ) (kind : SwitchKind) (node1 node2 : ℤ) (opened retained fictitious : Bool) (touched : Touched) → IsLevelOf net level touched
      → IsTouch net (changed_or net (apply net (edits.AddSwitch id level kind node1 node2 opened retained fictitious))) touched
  switch_touch id level kind node1 node2 opened retained fictitious touched is =
      of_level net level touched _ is (λ place new at e. switch_leaves net new id level kind node1 node2 opened retained fictitious place (sound-once net s) at e)

  pub injection_touch : (id level : List ℕ) (node : ℤ) (item : Injection) (touched : Touched) → IsLevelOf net level touched → IsTouch net (changed_or net (apply net (edits.AddInjection id level node item))) touched
  injection_touch id level node item touched is = of_level net level touched _ is (λ place new at e. injection_leaves net new id level node item place (sound-once net s) at e)

  pub internal_touch : (level : List ℕ) (node1 node2 : ℤ) (touched : Touched) → IsLevelOf net level touched → IsTouch net (changed_or net (apply net (edits.AddInternal level node1 node2))) touched
  internal_touch level node1 node2 touched is = of_level net level touched _ is (λ place new at e. internal_leaves net new level node1 node2 place (sound-once net s) at e)

  pub cut_touch : (level : List ℕ) (node1 node2 : ℤ) (touched : Touched) → IsLevelOf net level touched → IsTouch net (changed_or net (apply net (edits.RemoveInternal level node1 node2))) touched
  cut_touch level node1 node2 touched is = of_level net level touched _ is (λ place new at e. cut_leaves net new level node1 node2 place (sound-once net s) at e)

  pub branch_touch : (id : List ℕ) (shape : Branch) (touched : Touched) → AreLevelsOfEnds net shape touched → IsTouch net (changed_or net (apply net (edits.AddBranch id shape))) touched
  branch_touch id shape touched are = if_made net touched (apply net (edits.AddBranch id shape)) (λ new e. branch_leaves net new id shape touched (sound-once net s) are e)

  pub removed_touch : (id : List ℕ) (touched : Touched) → IsLevelOfSwitch net id touched → IsTouch net (changed_or net (apply net (edits.RemoveSwitch id))) touched
  removed_touch id (touches.Level place) is = if_made net (touches.Level place) (apply net (edits.RemoveSwitch id)) (λ new e. removed_leaves net new id place is.0 s is.1 e)
  removed_touch id (touches.Ends first second third) is = absurd is
  removed_touch id touches.All is = tt

  pub equipment_touch : (id : List ℕ) (touched : Touched) → AreLevelsOfSides net id touched → IsTouch net (changed_or net (apply net (edits.RemoveEquipment id))) touched
  equipment_touch id (touches.Level place) is = absurd is
  equipment_touch id (touches.Ends first second third) is =
      if_made net (touches.Ends first second third) (apply net (edits.RemoveEquipment id)) (λ new e. equipment_leaves net new id first second third s is.0 is.1 is.2 e)
  equipment_touch id touches.All is = tt
