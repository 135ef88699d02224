-- What an edit of one level makes of the network: another level in the place of that one, and no more.
use Rattle.std.proofs.Common.{◌≡◌, refl, sym, ap, ◌∙◌, ℕ, ℤ, Bool, true, false, cond, not, ◌&&◌, List, [], ◌∷◌, ◌++◌, length, Option, Some, Result, Ok}
use Rattle.std.specs.Prelude.{map, find, nat_le}
use Rattle.std.specs.List.{list_any}
use Rattle.grid_ids.specs.Name.{same_id, has_id}
use Rattle.grid_ids.specs.Refusing.{refuse_if, refuse_by, found_or, map_fault}
use Rattle.grid_ids.proofs.Alike.{same_is}
use Rattle.grid_kinds.specs.Records.{injection_fault}
use Rattle.grid_kinds.specs.declared.Injection.{Injection}
use Rattle.grid_kinds.specs.declared.SwitchKind.{SwitchKind}
use Rattle.grid_level.specs.declared.Terminal.{Terminal}
use Rattle.grid_level.specs.declared.Stand.{Stand}
use Rattle.grid_level.specs.declared.Stand.TheVariants.{Busbar, Feeder, BranchEnd}
use Rattle.grid_level.specs.VoltageLevel.{VoltageLevel}
use Rattle.grid_level.specs.LevelEdits.{Unfit, edge_fits, level_with_switch, level_with_internal, level_with_terminal}
use Rattle.grid_level.proofs.LevelEdits.{went, not_refused}
use Rattle.grid_level.proofs.PlacedTerminals.{placing}
use Rattle.grid_structure.specs.declared.Edit.TheVariants as edits
use Rattle.grid_structure.specs.declared.EditFault.TheVariants as faults
use Rattle.grid_structure.specs.declared.End.{End}
use Rattle.grid_structure.specs.declared.NamedBranch.{NamedBranch}
use Rattle.grid_structure.specs.Network.{Network}
use Rattle.grid_structure.specs.Sites.{levels, level_named, taken, switches}
use Rattle.grid_structure.specs.Editing.{apply, edit_fault, in_home, max_switches, place_end, with_level}
use Rattle.grid_structure.proofs.Found.{any-map}
use Rattle.grid_structure.proofs.Frames.{frame, framed, frame-with_levels, put, put_keeps, stands}
use Rattle.grid_structure.proofs.Levels.{levels-with_levels}
use Rattle.grid_structure.proofs.OneLevel.{fits, found}
use Rattle.grid_json.proofs.BusSections.{put_named}

-- ---- a level in the place of one

put_other : (id : List ℕ) (new : VoltageLevel) (ls : List VoltageLevel) → same_id id new.id ≡ false → find (λ (l : VoltageLevel). same_id id l.id) (map (put new) ls) ≡ find (λ (l : VoltageLevel). same_id id l.id) ls
put_other id new [] other = refl
put_other id new (l ∷ ls) other = by (same_id new.id l.id) refl (put_other id new ls other)
  where
    by : (t : Bool) → same_id new.id l.id ≡ t → find (λ (l : VoltageLevel). same_id id l.id) (map (put new) ls) ≡ find (λ (l : VoltageLevel). same_id id l.id) ls
        → find (λ (l : VoltageLevel). same_id id l.id) (cond t new l ∷ map (put new) ls) ≡ find (λ (l : VoltageLevel). same_id id l.id) (l ∷ ls)
    by true is rest = let gone : same_id id l.id ≡ false = ap (same_id id) (sym (same_is new.id l.id is)) ∙ other in rw (other, gone) rest
    by false is rest = ap (λ z. cond (same_id id l.id) (Some l) z) rest

-- ---- the substation of a level

homes_by : (net : Network) (o q : List ℕ) → in_home net (Some o) q ≡ list_any (λ (f : List ℕ × List (List ℕ) × List NamedBranch). same_id o f.0 && has_id f.1 q) (frame net)
unfolding in_home
homes_by net o q = sym (any-map (λ (f : List ℕ × List (List ℕ) × List NamedBranch). same_id o f.0 && has_id f.1 q) framed net.substations)

-- which substation has a level
abbrev pub SameHomes : Network → Network → List ℕ → Type 0
SameHomes net new q = (o : List ℕ) → in_home new (Some o) q ≡ in_home net (Some o) q

homes_put : (made : VoltageLevel) (net : Network) (q : List ℕ) → SameHomes net (with_level made net) q
unfolding with_level
homes_put made net q o =
    homes_by (with_level made net) o q
    ∙ ap (list_any (λ (f : List ℕ × List (List ℕ) × List NamedBranch). same_id o f.0 && has_id f.1 q)) (frame-with_levels (put made) (put_keeps made) net)
    ∙ sym (homes_by net o q)

-- a level is as it was, and in its substation
pub record Stays (q : List ℕ) (net new : Network) : Type 0 where
  pub named : level_named new q ≡ level_named net q
  pub homes : SameHomes net new q

pub stays_itself : (q : List ℕ) (net : Network) → Stays q net net
stays_itself q net = record { named = refl; homes = λ o. refl }

pub stays_then : (q : List ℕ) (a b c : Network) → Stays q a b → Stays q b c → Stays q a c
stays_then q a b c s t = record { named = t.named ∙ s.named; homes = λ o. t.homes o ∙ s.homes o }

-- ---- what an edit of a level did

pub record Changed (net new : Network) (level : List ℕ) (change : VoltageLevel → Result VoltageLevel Unfit) : Type 0 where
  pub old : VoltageLevel
  pub made : VoltageLevel
  pub named : level_named net level ≡ Some old
  pub did : change old ≡ Ok made
  pub same : made.id ≡ old.id
  pub is : with_level made net ≡ new

module _ (net new : Network) (level : List ℕ) (change : VoltageLevel → Result VoltageLevel Unfit) (c : Changed net new level change) where
  own : c.made.id ≡ level
  unfolding level_named
  own = c.same ∙ sym (stands level (levels net) c.old c.named).named

  pub changed_named : level_named new level ≡ Some c.made
  unfolding level_named with_level
  changed_named =
      ap (λ (z : Network). level_named z level) (sym c.is)
      ∙ ap (find (λ (l : VoltageLevel). same_id level l.id)) (levels-with_levels (put c.made) net)
      ∙ put_named level c.old c.made (levels net) c.named own

  pub changed_homes : (q : List ℕ) → SameHomes net new q
  changed_homes q o = ap (λ (z : Network). in_home z (Some o) q) (sym c.is) ∙ homes_put c.made net q o

  pub changed_stays : (q : List ℕ) → same_id q level ≡ false → Stays q net new
  unfolding level_named with_level
  changed_stays q other = record {
    named =
        ap (λ (z : Network). level_named z q) (sym c.is)
        ∙ ap (find (λ (l : VoltageLevel). same_id q l.id)) (levels-with_levels (put c.made) net)
        ∙ put_other q c.made (levels net) (ap (same_id q) own ∙ other);
    homes = changed_homes q;
  }

-- ---- each edit of a level

terminal_id : (level made : VoltageLevel) (node : ℤ) (terminal : Terminal) (stand : Stand) → level_with_terminal level node terminal stand ≡ Ok made → made.id ≡ level.id
terminal_id level made node terminal stand h = ap (λ (z : VoltageLevel). z.id) (sym (placing level node terminal stand made h).is)

switch_id : (level made : VoltageLevel) (id : List ℕ) (kind : SwitchKind) (node1 node2 : ℤ) (opened retained fictitious : Bool) → level_with_switch level id kind node1 node2 opened retained fictitious ≡ Ok made → made.id ≡ level.id
unfolding level_with_switch
switch_id level made id kind node1 node2 opened retained fictitious h =
    let e = went (edge_fits level node1 node2) _ made h in
    let is : record level { switches = level.switches ++ record { id = id; kind = kind; node1 = e.value.0; node2 = e.value.1; opened = opened; retained = retained; fictitious = fictitious } ∷ [] } ≡ made = cc (e.next) in
    ap (λ (z : VoltageLevel). z.id) (sym is)

internal_id : (level made : VoltageLevel) (node1 node2 : ℤ) → level_with_internal level node1 node2 ≡ Ok made → made.id ≡ level.id
unfolding level_with_internal
internal_id level made node1 node2 h =
    let e = went (edge_fits level node1 node2) _ made h in
    let is : record level { internals = level.internals ++ record { node1 = e.value.0; node2 = e.value.1 } ∷ [] } ≡ made = cc (e.next) in
    ap (λ (z : VoltageLevel). z.id) (sym is)

pub busbar_changed : (net new : Network) (id level : List ℕ) (node : ℤ) → apply net (edits.AddBusbar id level node) ≡ Ok new → Changed net new level (λ v. level_with_terminal v node (record { equipment = id; side = 1 }) Busbar)
unfolding apply
busbar_changed net new id level node h =
    let t = went (refuse_if (taken net id) faults.IdTaken) _ new h in
    let o = went (found_or (level_named net level) faults.NoLevel) _ new t.next in
    let m = went (map_fault edit_fault (level_with_terminal o.value node (record { equipment = id; side = 1 }) Busbar)) _ new o.next in
    let did = fits _ _ _ m.is in
    record { old = o.value; made = m.value; named = found _ _ _ o.is; did = did; same = terminal_id o.value m.value node _ _ did; is = cc (m.next) }

pub injection_changed : (net new : Network) (id level : List ℕ) (node : ℤ) (item : Injection) → apply net (edits.AddInjection id level node item) ≡ Ok new → Changed net new level (λ v. level_with_terminal v node (record { equipment = id; side = 1 }) (Feeder item))
unfolding apply
injection_changed net new id level node item h =
    let t = went (refuse_if (taken net id) faults.IdTaken) _ new h in
    let o = went (found_or (level_named net level) faults.NoLevel) _ new t.next in
    let k = went (refuse_by faults.Check (injection_fault item)) _ new o.next in
    let m = went (map_fault edit_fault (level_with_terminal o.value node (record { equipment = id; side = 1 }) (Feeder item))) _ new k.next in
    let did = fits _ _ _ m.is in
    record { old = o.value; made = m.value; named = found _ _ _ o.is; did = did; same = terminal_id o.value m.value node _ _ did; is = cc (m.next) }

pub switch_changed : (net new : Network) (id level : List ℕ) (kind : SwitchKind) (node1 node2 : ℤ) (opened retained fictitious : Bool)
    → apply net (edits.AddSwitch id level kind node1 node2 opened retained fictitious) ≡ Ok new → Changed net new level (λ v. level_with_switch v id kind node1 node2 opened retained fictitious)
unfolding apply
switch_changed net new id level kind node1 node2 opened retained fictitious h =
    let t = went (refuse_if (taken net id) faults.IdTaken) _ new h in
    let o = went (found_or (level_named net level) faults.NoLevel) _ new t.next in
    let w = went (refuse_if (nat_le max_switches (length (switches net))) faults.TooManySwitches) _ new o.next in
    let m = went (map_fault edit_fault (level_with_switch o.value id kind node1 node2 opened retained fictitious)) _ new w.next in
    let did = fits _ _ _ m.is in
    record { old = o.value; made = m.value; named = found _ _ _ o.is; did = did; same = switch_id o.value m.value id kind node1 node2 opened retained fictitious did; is = cc (m.next) }

pub internal_changed : (net new : Network) (level : List ℕ) (node1 node2 : ℤ) → apply net (edits.AddInternal level node1 node2) ≡ Ok new → Changed net new level (λ v. level_with_internal v node1 node2)
unfolding apply
internal_changed net new level node1 node2 h =
    let o = went (found_or (level_named net level) faults.NoLevel) _ new h in
    let m = went (map_fault edit_fault (level_with_internal o.value node1 node2)) _ new o.next in
    let did = fits _ _ _ m.is in
    record { old = o.value; made = m.value; named = found _ _ _ o.is; did = did; same = internal_id o.value m.value node1 node2 did; is = cc (m.next) }

-- an end of a branch that was placed: in its level, which is at home in the substation that the branch names
pub record Ended (net new : Network) (home : Option (List ℕ)) (id : List ℕ) (side : ℕ) (end : End) : Type 0 where
  pub changed : Changed net new end.level (λ v. level_with_terminal v end.node (record { equipment = id; side = side }) BranchEnd)
  pub in_home : in_home net home end.level ≡ true

pub end_changed : (net new : Network) (home : Option (List ℕ)) (id : List ℕ) (side : ℕ) (end : End) → place_end home id side end net ≡ Ok new → Ended net new home id side end
unfolding place_end
end_changed net new home id side end h =
    let o = went (found_or (level_named net end.level) faults.NoLevel) _ new h in
    let w = went (refuse_if (not (in_home net home end.level)) (faults.OtherSubstation side)) _ new o.next in
    let m = went (map_fault edit_fault (level_with_terminal o.value end.node (record { equipment = id; side = side }) BranchEnd)) _ new w.next in
    let did = fits _ _ _ m.is in
    record {
      changed = record { old = o.value; made = m.value; named = found _ _ _ o.is; did = did; same = terminal_id o.value m.value end.node _ _ did; is = cc (m.next) };
      in_home = at_home (in_home net home end.level) (not_refused _ _ _ w.is);
    }
  where
    at_home : (t : Bool) → not t ≡ false → t ≡ true
    at_home true e = refl
    at_home false e = cc
