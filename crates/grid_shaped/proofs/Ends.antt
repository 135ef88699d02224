-- What an end of a branch and its breaker make of a level with configured buses.
use Rattle.std.proofs.Common.{◌≡◌, refl, sym, ap, ◌∙◌, subst, ℕ, ℤ, pos, ◌+◌, Bool, true, false, not, List, [], ◌∷◌, ◌++◌, length, Option, Some, Result, Ok, Err}
use Rattle.std.specs.Prelude.{if◌then◌else◌, All}
use Rattle.std.proofs.lemmas.Bool.{false≢true}
use Rattle.std.proofs.lemmas.List.{append-nil}
use Rattle.std.proofs.lemmas.List.Elements.{All-cons, All-nil}
use Rattle.grid_ids.specs.Name.{same_id}
use Rattle.grid_ids.proofs.Alike.{same_is}
use Rattle.grid_kinds.specs.declared.SwitchKind.TheVariants.{Breaker}
use Rattle.grid_level.specs.declared.Stand.TheVariants.{BranchEnd}
use Rattle.grid_level.specs.Passing.{is_busbar}
use Rattle.grid_level.specs.LevelEdits.{Unfit, level_with_switch, level_with_terminal}
use Rattle.grid_level.specs.VoltageLevel.{VoltageLevel}
use Rattle.grid_structure.specs.declared.Edit.TheVariants as edits
use Rattle.grid_structure.specs.declared.EditFault.{EditFault}
use Rattle.grid_structure.specs.declared.End.{End}
use Rattle.grid_structure.specs.Network.{Network}
use Rattle.grid_structure.specs.Sites.{level_named}
use Rattle.grid_structure.specs.Editing.{apply, in_home, place_end}
use Rattle.grid_placed.specs.Places.{Joint, Outlet}
use Rattle.grid_placed.specs.Translation.{breaker_id}
use Rattle.grid_placed.proofs.Nodes.{StandsWell}
use Rattle.grid_json.specs.declared.buses.BusLevelDraft.{BusLevelDraft}
use Rattle.grid_json.specs.declared.buses.EndDraft.{EndDraft}
use Rattle.grid_json.specs.declared.buses.EndDraft.TheVariants as ends
use Rattle.grid_json.specs.Loading.{bus_at, breaker_load, breaker_told, end_breaker, is_by_bus, level_of}
use Rattle.grid_json.proofs.Results.{bound}
use Rattle.grid_shaped.specs.Drafts.{end_outlet, end_outlets}
use Rattle.grid_shaped.proofs.LevelChanges.{Changed, Stays, changed_homes, changed_stays, end_changed, stays_itself, switch_changed}
use Rattle.grid_shaped.proofs.Additions.{IsHome, home_stays}
use Rattle.grid_shaped.proofs.Parts.{Plain, breaker_edit, breaker_more, bus_is_at, part, terminal_edit, terminal_more}

-- ---- breakers

told : (side : ℕ) (r : Result Network EditFault) (new : Network) → breaker_told side r ≡ Ok new → r ≡ Ok new
told side (Ok net) new h = cc
told side (Err fault) new h = cc

-- the edits of a level that add an end of a branch, and the breaker of one
abbrev pub end_edit : List ℕ → ℕ → ℤ → VoltageLevel → Result VoltageLevel Unfit
end_edit id side node v = level_with_terminal v node (record { equipment = id; side = side }) BranchEnd

abbrev pub switch_edit : List ℕ → ℕ → ℕ → ℤ → Bool → VoltageLevel → Result VoltageLevel Unfit
switch_edit id side bus node connected v = level_with_switch v (breaker_id (record { equipment = id; side = side })) Breaker (pos bus) node (not connected) false false

-- a breaker was added between these nodes
pub breaker_changed : (id : List ℕ) (side : ℕ) (level : List ℕ) (bus : ℕ) (node : ℤ) (connected : Bool) (net new : Network) → breaker_load id side level bus node connected net ≡ Ok new
    → Changed net new level (switch_edit id side bus node connected)
unfolding breaker_load
breaker_changed id side level bus node connected net new h =
    switch_changed net new (breaker_id (record { equipment = id; side = side })) level Breaker (pos bus) node (not connected) false false
    (told side (apply net (edits.AddSwitch (breaker_id (record { equipment = id; side = side })) level Breaker (pos bus) node (not connected) false false)) new h)

-- ---- a level in its substation, while it loads

pub record PartAt (l : BusLevelDraft) (home : List ℕ) (js : List Joint) (ds ps : List Outlet) (net : Network) : Type 0 where
  pub named : level_named net l.id ≡ Some (part l js ds ps)
  pub at_home : IsHome net home l.id

-- an end: in this level it is by bus, and has this node
pub record EndFits (l : BusLevelDraft) (e : EndDraft) (node : ℤ) (at : ℕ) : Type 0 where
  pub by_bus : same_id l.id (level_of e) ≡ true → is_by_bus e ≡ true
  pub node_is : same_id l.id (level_of e) ≡ true → node ≡ pos at

-- the breakers of some terminals more, which stand at buses
pub record Breaking (l : BusLevelDraft) (home : List ℕ) (js : List Joint) (ds ps more : List Outlet) (net : Network) : Type 0 where
  pub at : PartAt l home js (ds ++ more) ps net
  pub well : All (StandsWell (length l.buses)) more

module _ (l : BusLevelDraft) (home : List ℕ) (js : List Joint) (ds ps : List Outlet) (net new : Network) (before : PartAt l home js ds ps net) where
  no_terminal : Stays l.id net new → PartAt l home js ds (ps ++ []) new
  no_terminal stays = record { named = rw (append-nil ps) (stays.named ∙ before.named); at_home = home_stays net new home l.id before.at_home stays.homes }

  no_breaker : Stays l.id net new → Breaking l home js ds ps [] new
  no_breaker stays = record { at = record { named = rw (append-nil ds) (stays.named ∙ before.named); at_home = home_stays net new home l.id before.at_home stays.homes }; well = All-nil (StandsWell (length l.buses)) }

  -- ---- the end itself

  pub end_more : (branch_home : Option (List ℕ)) (id : List ℕ) (side : ℕ) (e : EndDraft) (p : End) → p.level ≡ level_of e → EndFits l e p.node (length l.buses + length ps) → place_end branch_home id side p net ≡ Ok new
      → PartAt l home js ds (ps ++ end_outlets l id side e) new
  end_more branch_home id side (ends.Node e) p level fit h = by (same_id l.id e.level) refl
    where
      by : (t : Bool) → same_id l.id e.level ≡ t → PartAt l home js ds (ps ++ []) new
      by true is = absurd (false≢true (fit.by_bus is))
      by false is = no_terminal (changed_stays net new p.level (end_edit id side p.node) (end_changed net new branch_home id side p h).changed l.id (ap (same_id l.id) level ∙ is))
  end_more branch_home id side (ends.Bus e) p level fit h = by (same_id l.id e.level) refl
    where
      c : Changed net new p.level (end_edit id side p.node)
      c = (end_changed net new branch_home id side p h).changed

      by : (t : Bool) → same_id l.id e.level ≡ t → PartAt l home js ds (ps ++ (if t then end_outlet l.buses id side e ∷ [] else [])) new
      by true is =
          let own : p.level ≡ l.id = level ∙ sym (same_is l.id e.level is) in
          let in_level : Changed net new l.id (end_edit id side p.node) = subst (λ z. Changed net new z (end_edit id side p.node)) own c in
          let there : Changed net new l.id (terminal_edit (length l.buses + length ps) (end_outlet l.buses id side e)) = subst (λ (z : ℤ). Changed net new l.id (end_edit id side z)) (fit.node_is is) in_level in
          record {
            named = terminal_more l net new js ds ps before.named (length l.buses + length ps) (end_outlet l.buses id side e) refl there;
            at_home = home_stays net new home l.id before.at_home (changed_homes net new p.level (end_edit id side p.node) c l.id);
          }
      by false is = no_terminal (changed_stays net new p.level (end_edit id side p.node) c l.id (ap (same_id l.id) level ∙ is))

  -- ---- its breaker

  pub break_more : (id : List ℕ) (side : ℕ) (e : EndDraft) (node : ℤ) → EndFits l e node (length l.buses + length ds) → Plain ps → end_breaker id side e node net ≡ Ok new → Breaking l home js ds ps (end_outlets l id side e) new
  unfolding end_breaker is_busbar
  break_more id side (ends.Node e) node fit plain h =
      let same : net ≡ new = cc in
      no_breaker (subst (λ (z : Network). Stays l.id net z) same (stays_itself l.id net))
  break_more id side (ends.Bus e) node fit plain h = by (same_id l.id e.level) refl
    where
      found : (bus : ℕ) × (bus_at net e.level e.bus ≡ Ok bus) × (breaker_load id side e.level bus node e.connected net ≡ Ok new)
      found = bound (bus_at net e.level e.bus) (λ bus. breaker_load id side e.level bus node e.connected net) new h

      c : Changed net new e.level (switch_edit id side found.0 node e.connected)
      c = breaker_changed id side e.level found.0 node e.connected net new found.2

      by : (t : Bool) → same_id l.id e.level ≡ t → Breaking l home js ds ps (if t then end_outlet l.buses id side e ∷ [] else []) new
      by true is =
          let own : e.level ≡ l.id = sym (same_is l.id e.level is) in
          let k = bus_is_at l net js ds ps e.bus found.0 before.named plain (ap (λ z. bus_at net z e.bus) (sym own) ∙ found.1) in
          let t = end_outlet l.buses id side e in
          let n = length l.buses + length ds in
          let in_level : Changed net new l.id (switch_edit id side found.0 node e.connected) = subst (λ z. Changed net new z (switch_edit id side found.0 node e.connected)) own c in
          let at_place : Changed net new l.id (switch_edit id side t.place node e.connected) = subst (λ (z : ℕ). Changed net new l.id (switch_edit id side z node e.connected)) (sym k.place_is) in_level in
          let there : Changed net new l.id (breaker_edit n t) = subst (λ (z : ℤ). Changed net new l.id (switch_edit id side t.place z e.connected)) (fit.node_is is) at_place in
          record {
            at = record {
              named = breaker_more l net new js ds ps before.named n t refl there;
              at_home = home_stays net new home l.id before.at_home (changed_homes net new e.level (switch_edit id side found.0 node e.connected) c l.id);
            };
            well = All-cons (StandsWell (length l.buses)) t [] (k.below, refl) (All-nil (StandsWell (length l.buses)));
          }
      by false is = no_breaker (changed_stays net new e.level (switch_edit id side found.0 node e.connected) c l.id is)

-- ---- an end of a branch of another substation

pub end_none : (l : BusLevelDraft) (home : List ℕ) (net new : Network) (branch_home : Option (List ℕ)) (sub : List ℕ) (id : List ℕ) (side : ℕ) (e : EndDraft) (p : End) → IsHome net home l.id → p.level ≡ level_of e
    → branch_home ≡ Some sub → same_id sub home ≡ false → place_end branch_home id side p net ≡ Ok new → end_outlets l id side e ≡ []
end_none l home net new branch_home sub id side (ends.Node e) p is level named other h = refl
end_none l home net new branch_home sub id side (ends.Bus e) p is level named other h = by (same_id l.id e.level) refl
  where
    by : (t : Bool) → same_id l.id e.level ≡ t → (if t then end_outlet l.buses id side e ∷ [] else []) ≡ []
    by true same =
        let there : in_home net (Some sub) p.level ≡ true = ap (λ z. in_home net z p.level) (sym named) ∙ (end_changed net new branch_home id side p h).in_home in
        let own : p.level ≡ l.id = level ∙ sym (same_is l.id e.level same) in
        absurd (false≢true (sym (is.only sub other) ∙ ap (in_home net (Some sub)) (sym own) ∙ there))
    by false same = refl
