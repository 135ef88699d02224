-- What is read off the terminals of each level, through the edits.
use Rattle.std.proofs.Common.{◌≡◌, refl, sym, ap, ◌∙◌, subst, ℕ, zero, suc, ℤ, ◌+◌, ◌≤◌, Bool, true, false, cond, not, List, [], ◌∷◌, ◌++◌, length, Option, Some, None}
use Rattle.std.specs.Prelude.{map, insert, nat_le, Ok}
use Rattle.std.proofs.lemmas.Bool.{false≢true}
use Rattle.std.proofs.lemmas.List.{append-nil}
use Rattle.std.proofs.lemmas.Grind.{flat_map-append}
use Rattle.grid_ids.specs.Name.{same_id, has_id}
use Rattle.grid_ids.specs.Refusing.{refuse_if, refuse_by, found_or, map_fault}
use Rattle.grid_kinds.specs.Records.{injection_fault}
use Rattle.grid_kinds.specs.declared.Injection.{Injection}
use Rattle.grid_kinds.specs.declared.SwitchKind.{SwitchKind}
use Rattle.grid_level.specs.declared.Placed.{Placed}
use Rattle.grid_level.specs.declared.Terminal.{Terminal}
use Rattle.grid_level.specs.declared.Stand.{Stand}
use Rattle.grid_level.specs.declared.Stand.TheVariants.{Busbar, Feeder, BranchEnd}
use Rattle.grid_level.specs.VoltageLevel.{VoltageLevel}
use Rattle.grid_level.specs.LevelEdits.{level_with_terminal, level_with_switch, level_with_internal, level_without_internal, level_without_equipment, edge_fits, without_first, joins, no_edge, with_placed}
use Rattle.grid_level.proofs.PlacedTerminals as placing
use Rattle.grid_level.proofs.LevelEdits as on_level
use Rattle.grid_structure.specs.Network.{Network, Substation}
use Rattle.grid_structure.specs.Sites.{levels, switches, level_named, find_level, all_ids, taken, switch_ids, equipment_ids, branch_ends, home_of}
use Rattle.grid_structure.specs.Editing.{apply, edit_fault, with_level, with_levels, with_substation, level_without_switch, max_switches, place_end, place_ends, in_home, refuse_home, with_branch}
use Rattle.grid_structure.specs.declared.NamedBranch.{NamedBranch}
use Rattle.grid_structure.specs.declared.Branch.{Branch}
use Rattle.grid_structure.specs.declared.End.{End}
use Rattle.grid_structure.specs.declared.Edit.{Edit}
use Rattle.grid_structure.specs.declared.Edit.TheVariants as edits
use Rattle.grid_structure.specs.declared.EditFault.TheVariants as faults
use Rattle.grid_structure.specs.Soundness.{IsSound}
use Rattle.grid_structure.proofs.Counts.{times, differ-times}
use Rattle.grid_structure.proofs.Frames.{put_level}
use Rattle.grid_structure.proofs.Levels.{levels-with_levels}
use Rattle.grid_structure.proofs.OneLevel.{base_of, found, fits}
use Rattle.grid_structure.proofs.Substations.{changed, levels_in}
use Rattle.grid_structure.proofs.SoundBranches.{Midway, ended}
use Rattle.grid_structure.proofs.Sides.{Side}
use Rattle.grid_structure.proofs.SoundRemovals.{dropped, levels-dropped}
use Rattle.grid_structure.proofs.LevelInsertions.{bare_level}
use Rattle.grid_structure.proofs.ListOfLevels.{level_inserted}
use Rattle.grid_busview.specs.Views.{is_load, is_generation}
use Rattle.grid_watts.specs.Watts.{is_powered}
use Rattle.grid_watts.specs.Moved.{leaves_rows}
use Rattle.grid_watts.proofs.EquipmentShares.{others}

-- what is read of each level
abbrev pub readings : {R : Type 0} → (List Placed → R) → List VoltageLevel → List R
readings read ls = map (λ (l : VoltageLevel). read l.placed) ls

-- a terminal that makes no difference to what is read
abbrev pub Ignores : {R : Type 0} → (List Placed → R) → Placed → Type 0
Ignores read p = (ps : List Placed) → read (with_placed p ps) ≡ read ps

-- and what is no load, generator or battery makes none
abbrev pub ReadsPowered : {R : Type 0} → (List Placed → R) → Type 0
ReadsPowered read = (p : Placed) → is_powered p.stand ≡ false → Ignores read p

abbrev pub Alike : {R : Type 0} → (List Placed → R) → Network → Network → Type 0
Alike read net new = readings read (levels new) ≡ readings read (levels net)

module _ {R : Type 0} (read : List Placed → R) where
  swapped : (before after : List VoltageLevel) (old new : VoltageLevel) → read new.placed ≡ read old.placed → readings read (before ++ new ∷ after) ≡ readings read (before ++ old ∷ after)
  swapped [] after old new e = ap (λ z. z ∷ readings read after) e
  swapped (x ∷ before) after old new e = ap (λ z. read x.placed ∷ z) (swapped before after old new e)

  -- a level in the place of another
  level_alike : (net : Network) (id : List ℕ) (new old : VoltageLevel) → ((q : List ℕ) → times q (all_ids net) ≤ 1) → level_named net id ≡ Some old → new.id ≡ old.id → read new.placed ≡ read old.placed
      → Alike read net (with_level new net)
  level_alike net id new old ids named same e =
      let p = put_level net id new old ids named same in
      ap (readings read) p.is ∙ swapped p.before p.after old new e ∙ sym (ap (readings read) p.was)

  each_alike : (change : VoltageLevel → VoltageLevel) → ((l : VoltageLevel) → (change l).placed ≡ l.placed) → (ls : List VoltageLevel) → readings read (map change ls) ≡ readings read ls
  each_alike change step [] = refl
  each_alike change step (l ∷ ls) = rw (step l, each_alike change step ls) refl

  -- ---- edits that bring no terminal

  pub substation_alike : (net new : Network) (id : List ℕ) → apply net (edits.AddSubstation id) ≡ Ok new → Alike read net new
  unfolding apply levels
  substation_alike net new id h =
      let t = on_level.went (refuse_if (taken net id) faults.IdTaken) _ new h in
      let bare : Substation = record { id = id; levels = []; transformers = [] } in
      let made : Network = record net { substations = net.substations ++ bare ∷ [] } in
      let is : made ≡ new = cc (t.next) in
      let lists : levels_in (net.substations ++ bare ∷ []) ≡ levels_in net.substations = flat_map-append (λ (s : Substation). s.levels) net.substations (bare ∷ []) ∙ append-nil _ in
      subst (λ (z : Network). Alike read net z) is (ap (readings read) lists)

  pub switch_less_alike : (net new : Network) (id : List ℕ) → apply net (edits.RemoveSwitch id) ≡ Ok new → Alike read net new
  unfolding apply level_without_switch
  switch_less_alike net new id h =
      let t = on_level.went (refuse_if (not (has_id (switch_ids net) id)) faults.NoSuchId) _ new h in
      let change = λ (l : VoltageLevel). level_without_switch id l in
      let is : with_levels change net ≡ new = cc (t.next) in
      subst (λ (z : Network). Alike read net z) is (ap (readings read) (levels-with_levels change net) ∙ each_alike change (λ l. refl) (levels net))

  same_placed : (net : Network) (id : List ℕ) (changed new old : VoltageLevel) → IsSound net → level_named net id ≡ Some old → changed ≡ new → changed.id ≡ old.id → changed.placed ≡ old.placed
      → Alike read net (with_level new net)
  same_placed net id changed new old s named is same placed =
      subst (λ (l : VoltageLevel). Alike read net (with_level l net)) is (level_alike net id changed old (differ-times (all_ids net) s.ids) named same (ap read placed))

  pub switch_alike : (net new : Network) (id level : List ℕ) (kind : SwitchKind) (node1 node2 : ℤ) (opened retained fictitious : Bool) → IsSound net
      → apply net (edits.AddSwitch id level kind node1 node2 opened retained fictitious) ≡ Ok new → Alike read net new
  unfolding apply level_with_switch
  switch_alike net new id level kind node1 node2 opened retained fictitious s h =
      let t = on_level.went (refuse_if (taken net id) faults.IdTaken) _ new h in
      let o = on_level.went (found_or (level_named net level) faults.NoLevel) _ new t.next in
      let w = on_level.went (refuse_if (nat_le max_switches (length (switches net))) faults.TooManySwitches) _ new o.next in
      let m = on_level.went (map_fault edit_fault (level_with_switch o.value id kind node1 node2 opened retained fictitious)) _ new w.next in
      let e = on_level.went (edge_fits o.value node1 node2) _ m.value (fits _ _ _ m.is) in
      let is : with_level m.value net ≡ new = cc (m.next) in
      let put : VoltageLevel = record o.value { switches = o.value.switches ++ record { id = id; kind = kind; node1 = e.value.0; node2 = e.value.1; opened = opened; retained = retained; fictitious = fictitious } ∷ [] } in
      let made : put ≡ m.value = cc (e.next) in
      subst (λ (z : Network). Alike read net z) is (same_placed net level put m.value o.value s (found _ _ _ o.is) made refl refl)

  pub internal_alike : (net new : Network) (level : List ℕ) (node1 node2 : ℤ) → IsSound net → apply net (edits.AddInternal level node1 node2) ≡ Ok new → Alike read net new
  unfolding apply level_with_internal
  internal_alike net new level node1 node2 s h =
      let o = on_level.went (found_or (level_named net level) faults.NoLevel) _ new h in
      let m = on_level.went (map_fault edit_fault (level_with_internal o.value node1 node2)) _ new o.next in
      let e = on_level.went (edge_fits o.value node1 node2) _ m.value (fits _ _ _ m.is) in
      let is : with_level m.value net ≡ new = cc (m.next) in
      let put : VoltageLevel = record o.value { internals = o.value.internals ++ record { node1 = e.value.0; node2 = e.value.1 } ∷ [] } in
      let made : put ≡ m.value = cc (e.next) in
      subst (λ (z : Network). Alike read net z) is (same_placed net level put m.value o.value s (found _ _ _ o.is) made refl refl)

  pub internal_less_alike : (net new : Network) (level : List ℕ) (node1 node2 : ℤ) → IsSound net → apply net (edits.RemoveInternal level node1 node2) ≡ Ok new → Alike read net new
  unfolding apply level_without_internal
  internal_less_alike net new level node1 node2 s h =
      let o = on_level.went (found_or (level_named net level) faults.NoLevel) _ new h in
      let m = on_level.went (map_fault edit_fault (level_without_internal o.value node1 node2)) _ new o.next in
      let r = on_level.went (found_or (without_first (joins node1 node2) o.value.internals) no_edge) _ m.value (fits _ _ _ m.is) in
      let is : with_level m.value net ≡ new = cc (m.next) in
      let put : VoltageLevel = record o.value { internals = r.value } in
      let made : put ≡ m.value = cc (r.next) in
      subst (λ (z : Network). Alike read net z) is (same_placed net level put m.value o.value s (found _ _ _ o.is) made refl refl)

  -- ---- a terminal more

  terminal_alike : (net : Network) (id : List ℕ) (new old : VoltageLevel) (node : ℤ) (terminal : Terminal) (stand : Stand) → ((q : List ℕ) → times q (all_ids net) ≤ 1)
      → level_named net id ≡ Some old → level_with_terminal old node terminal stand ≡ Ok new → ((n : ℕ) → Ignores read (record { node = n; terminal = terminal; stand = stand }))
      → Alike read net (with_level new net)
  terminal_alike net id new old node terminal stand ids named h none =
      let k = placing.placing old node terminal stand new h in
      level_alike net id new old ids named (ap (λ (l : VoltageLevel). l.id) (sym k.is)) (ap (λ (l : VoltageLevel). read l.placed) (sym k.is) ∙ none k.number old.placed)

  pub injection_alike : (net new : Network) (id level : List ℕ) (node : ℤ) (item : Injection) → IsSound net → apply net (edits.AddInjection id level node item) ≡ Ok new
      → ((n : ℕ) → Ignores read (record { node = n; terminal = record { equipment = id; side = 1 }; stand = Feeder item })) → Alike read net new
  unfolding apply
  injection_alike net new id level node item s h none =
      let t = on_level.went (refuse_if (taken net id) faults.IdTaken) _ new h in
      let o = on_level.went (found_or (level_named net level) faults.NoLevel) _ new t.next in
      let c = on_level.went (refuse_by faults.Check (injection_fault item)) _ new o.next in
      let m = on_level.went (map_fault edit_fault (level_with_terminal o.value node (record { equipment = id; side = 1 }) (Feeder item))) _ new c.next in
      let is : with_level m.value net ≡ new = cc (m.next) in
      subst (λ (z : Network). Alike read net z) is
      (terminal_alike net level m.value o.value node (record { equipment = id; side = 1 }) (Feeder item) (differ-times (all_ids net) s.ids) (found _ _ _ o.is) (fits _ _ _ m.is) none)

  -- ---- a level more

  inserted : (ls : List VoltageLevel) (k : ℕ) (l : VoltageLevel) → readings read (insert ls k l) ≡ insert (readings read ls) k (read l.placed)
  inserted ls zero l = refl
  inserted [] (suc k) l = refl
  inserted (x ∷ ls) (suc k) l = ap (λ z. read x.placed ∷ z) (inserted ls k l)

  pub level_brings : (net new : Network) (id substation : List ℕ) (nominal_v : ℤ) (low_v high_v : Option ℤ) (place : ℕ) → IsSound net → apply net (edits.AddLevel id substation nominal_v low_v high_v) ≡ Ok new
      → find_level new id ≡ Some place → readings read (levels new) ≡ insert (readings read (levels net)) place (read [])
  level_brings net new id substation nominal_v low_v high_v place s h found =
      let k = level_inserted net new id substation nominal_v low_v high_v h s in
      let same : k.0 ≡ place = cc (k.1, found) in
      ap (readings read) k.2 ∙ inserted (levels net) k.0 (bare_level id nominal_v low_v high_v) ∙ ap (λ z. insert (readings read (levels net)) z (read [])) same

  -- ---- equipment less

  pub equipment_gone : (net new : Network) (id : List ℕ) → apply net (edits.RemoveEquipment id) ≡ Ok new → readings read (levels new) ≡ readings (λ ps. read (others id ps)) (levels net)
  unfolding apply level_without_equipment
  equipment_gone net new id h =
      let t = on_level.went (refuse_if (not (has_id (equipment_ids net) id)) faults.NoSuchId) _ new h in
      let cleared = with_levels (level_without_equipment id) net in
      let is : dropped id cleared ≡ new = cc (t.next) in
      ap (λ (z : Network). readings read (levels z)) (sym is) ∙ ap (readings read) (levels-dropped id cleared) ∙ ap (readings read) (levels-with_levels (level_without_equipment id) net) ∙ along (levels net)
    where
      along : (ls : List VoltageLevel) → readings read (map (level_without_equipment id) ls) ≡ readings (λ ps. read (others id ps)) ls
      along [] = refl
      along (l ∷ ls) = ap (λ z. read (others id l.placed) ∷ z) (along ls)

-- ---- what is no load, generator or battery

transformer_levels : (id : List ℕ) (b : NamedBranch) (subs : List Substation) → levels_in (map (changed id (λ s. record s { transformers = s.transformers ++ b ∷ [] })) subs) ≡ levels_in subs
transformer_levels id b [] = refl
transformer_levels id b (s ∷ subs) = by (same_id id s.id) (transformer_levels id b subs)
  where
    more : Substation → Substation
    more s = record s { transformers = s.transformers ++ b ∷ [] }

    by : (t : Bool) → levels_in (map (changed id more) subs) ≡ levels_in subs → (cond t (more s) s).levels ++ levels_in (map (changed id more) subs) ≡ s.levels ++ levels_in subs
    by true again = ap (λ z. s.levels ++ z) again
    by false again = ap (λ z. s.levels ++ z) again

branch_levels : (net : Network) (b : NamedBranch) (home : Option (List ℕ)) → levels (with_branch b home net) ≡ levels net
unfolding with_branch with_substation levels
branch_levels net b None = refl
branch_levels net b (Some home) = transformer_levels home b net.substations

busbar_is_none : is_powered Busbar ≡ false
unfolding is_powered is_load is_generation
busbar_is_none = refl

end_is_none : is_powered BranchEnd ≡ false
unfolding is_powered is_load is_generation
end_is_none = refl

module _ {R : Type 0} (read : List Placed → R) (only : ReadsPowered read) where
  busbar_alike : (net new : Network) (id level : List ℕ) (node : ℤ) → IsSound net → apply net (edits.AddBusbar id level node) ≡ Ok new → Alike read net new
  unfolding apply
  busbar_alike net new id level node s h =
      let t = on_level.went (refuse_if (taken net id) faults.IdTaken) _ new h in
      let o = on_level.went (found_or (level_named net level) faults.NoLevel) _ new t.next in
      let m = on_level.went (map_fault edit_fault (level_with_terminal o.value node (record { equipment = id; side = 1 }) Busbar)) _ new o.next in
      let is : with_level m.value net ≡ new = cc (m.next) in
      subst (λ (z : Network). Alike read net z) is
      (terminal_alike read net level m.value o.value node (record { equipment = id; side = 1 }) Busbar (differ-times (all_ids net) s.ids) (found _ _ _ o.is) (fits _ _ _ m.is) (λ n. only _ busbar_is_none))

  end_alike : (net new : Network) (home : Option (List ℕ)) (id : List ℕ) (side : ℕ) (end : End) → ((q : List ℕ) → times q (all_ids net) ≤ 1) → place_end home id side end net ≡ Ok new → Alike read net new
  unfolding place_end
  end_alike net new home id side end ids h =
      let o = on_level.went (found_or (level_named net end.level) faults.NoLevel) _ new h in
      let t = on_level.went (refuse_if (not (in_home net home end.level)) (faults.OtherSubstation side)) _ new o.next in
      let m = on_level.went (map_fault edit_fault (level_with_terminal o.value end.node (record { equipment = id; side = side }) BranchEnd)) _ new t.next in
      let is : with_level m.value net ≡ new = cc (m.next) in
      subst (λ (z : Network). Alike read net z) is
      (terminal_alike read net end.level m.value o.value end.node (record { equipment = id; side = side }) BranchEnd ids (found _ _ _ o.is) (fits _ _ _ m.is) (λ n. only _ end_is_none))

  ends_alike : (home : Option (List ℕ)) (id : List ℕ) (those : List End) (side : ℕ) (start net new : Network) (ends : List Side) → Midway start net ends → place_ends home id side those net ≡ Ok new → Alike read net new
  unfolding place_ends
  ends_alike home id [] side start net new ends m h = let same : net ≡ new = cc in subst (λ (z : Network). Alike read net z) same refl
  ends_alike home id (end ∷ those) side start net new ends m h =
      let w = on_level.went (place_end home id side end net) _ new h in
      let e = ended start net w.value home id side end ends m w.is in
      ends_alike home id those (side + 1) start w.value new ((id, side, end.level, end.node) ∷ ends) e.midway w.next ∙ end_alike net w.value home id side end m.base.ids w.is

  branch_alike : (net new : Network) (id : List ℕ) (shape : Branch) → IsSound net → apply net (edits.AddBranch id shape) ≡ Ok new → Alike read net new
  unfolding apply
  branch_alike net new id shape s h =
      let t = on_level.went (refuse_if (taken net id) faults.IdTaken) _ new h in
      let r = on_level.went (refuse_home net shape) _ new t.next in
      let w = on_level.went (place_ends (home_of shape) id 1 (branch_ends shape) net) _ new r.next in
      let b : NamedBranch = record { id = id; shape = shape } in
      let is : with_branch b (home_of shape) w.value ≡ new = cc (w.next) in
      let start : Midway net net [] = record { base = base_of net s; frames = refl; lines = refl; ids = λ q. refl; sides = λ x. refl } in
      subst (λ (z : Network). Alike read net z) is
      (ap (readings read) (branch_levels w.value b (home_of shape)) ∙ ends_alike (home_of shape) id (branch_ends shape) 1 net net w.value [] start w.is)

  -- the edits that leave the rows
  pub edit_alike : (net new : Network) (edit : Edit) → IsSound net → apply net edit ≡ Ok new → leaves_rows edit ≡ true → Alike read net new
  unfolding leaves_rows
  edit_alike net new (edits.AddSubstation id) s h l = substation_alike read net new id h
  edit_alike net new (edits.AddLevel id substation nominal_v low_v high_v) s h l = absurd (false≢true l)
  edit_alike net new (edits.AddBusbar id level node) s h l = busbar_alike net new id level node s h
  edit_alike net new (edits.AddSwitch id level kind node1 node2 opened retained fictitious) s h l = switch_alike read net new id level kind node1 node2 opened retained fictitious s h
  edit_alike net new (edits.RemoveSwitch id) s h l = switch_less_alike read net new id h
  edit_alike net new (edits.AddInternal level node1 node2) s h l = internal_alike read net new level node1 node2 s h
  edit_alike net new (edits.RemoveInternal level node1 node2) s h l = internal_less_alike read net new level node1 node2 s h
  edit_alike net new (edits.AddInjection id level node item) s h l = absurd (false≢true l)
  edit_alike net new (edits.AddBranch id shape) s h l = branch_alike net new id shape s h
  edit_alike net new (edits.RemoveEquipment id) s h l = absurd (false≢true l)
