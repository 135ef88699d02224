-- Placing the ends of a branch in the flat list of levels is placing them in the network.
use Rattle.std.proofs.Common.{◌≡◌, refl, sym, ap, ◌∙◌, ℕ, ℤ, ◌+◌, ◌≤◌, Bool, true, false, List, [], ◌∷◌, length, Option, Some, None}
use Rattle.std.specs.Prelude.{find, position, slice_get, slice_set, is_some, Result, Ok, Err}
use Rattle.std.proofs.lemmas.Bool.{true≢false}
use Rattle.grid_lemmas.proofs.Lists.{position_map, some_got}
use Rattle.grid_ids.specs.Name.{same_id}
use Rattle.grid_ids.specs.Refusing.{◌>>=◌, map_fault}
use Rattle.grid_ids.proofs.Alike.{same_is}
use Rattle.grid_level.specs.declared.Terminal.{Terminal}
use Rattle.grid_level.specs.declared.Stand.TheVariants.{BranchEnd}
use Rattle.grid_level.specs.VoltageLevel.{VoltageLevel}
use Rattle.grid_level.specs.LevelEdits.{Unfit, level_with_terminal}
use Rattle.grid_level.proofs.PlacedTerminals.{placing}
use Rattle.grid_structure.specs.declared.NamedBranch.{NamedBranch}
use Rattle.grid_structure.specs.declared.End.{End}
use Rattle.grid_structure.specs.declared.EditFault.{EditFault}
use Rattle.grid_structure.specs.declared.structure.Head.{Head}
use Rattle.grid_structure.specs.declared.structure.IdOwner.{IdOwner}
use Rattle.grid_structure.specs.declared.branches.LevelFound.{LevelFound}
use Rattle.grid_structure.specs.declared.branches.LevelFound.TheVariants.{Nowhere, Elsewhere, At}
use Rattle.grid_structure.specs.declared.branches.Landing.{Landing}
use Rattle.grid_kinds.specs.declared.CheckFault.{CheckFault}
use Rattle.grid_kinds.specs.Records.{rated_fault}
use Rattle.grid_structure.specs.declared.EditFault.TheVariants as faults
use Rattle.grid_structure.specs.Network.{Network, Substation}
use Rattle.grid_structure.specs.Sites.{levels, find_level, level_named, substation_named}
use Rattle.grid_structure.specs.Editing.{edit_fault, place_end, place_ends, with_level, in_home}
use Rattle.grid_structure.specs.Cutting.{level_total, network_of}
use Rattle.grid_structure.specs.Indexed.{level_at, find_substation}
use Rattle.grid_structure.specs.Landing.{landed_at, landed, IsSpot, AreLandings, windings_refused}
use Rattle.grid_structure.proofs.Counts.{times}
use Rattle.grid_structure.proofs.Frames.{ids_of, level_ids_once}
use Rattle.grid_structure.proofs.Sides.{Side}
use Rattle.grid_structure.proofs.Places.{position_found, position_none}
use Rattle.grid_structure.proofs.Found.{some_find}
use Rattle.grid_structure.proofs.FlatNetworks.{levels-network_of, flat_put}
use Rattle.grid_structure.proofs.LevelChanges.{find_at}
use Rattle.grid_structure.proofs.SoundBranches.{Midway, ended}
use Rattle.grid_structure.proofs.LevelHomes.{in_home_is}
use Rattle.grid_structure.proofs.EndLandings.{lands, same_step, same_length}

abbrev pub lift : (List VoltageLevel → Network) → Result (List VoltageLevel) EditFault → Result Network EditFault
lift f (Ok ls) = Ok (f ls)
lift f (Err fault) = Err fault

none_found : {X : Type 0} (p : X → Bool) (xs : List X) → position p xs ≡ None → find p xs ≡ None
none_found {X} p xs e = by (find p xs) refl
  where
    by : (o : Option X) → find p xs ≡ o → o ≡ None
    by (Some x) h = absurd (true≢false (ap is_some (sym h) ∙ some_find p xs ∙ position_none p xs e))
    by None h = refl

module _ (id : List ℕ) (heads : List Head) (ts lines : List NamedBranch) where
  abbrev pub over : List VoltageLevel → Network
  over ls = network_of id heads ls ts lines

  -- the levels while the ends are placed
  pub record Stage (start ls : List VoltageLevel) (ends : List Side) : Type 0 where
    pub midway : Midway (over start) (over ls) ends
    pub ids : ids_of ls ≡ ids_of start
    pub few : length ls ≡ level_total heads

  -- a level at its place
  record Stands_at (ls : List VoltageLevel) (level : List ℕ) (k : ℕ) : Type 0 where
    pub old : VoltageLevel
    pub at : slice_get ls k ≡ Some old
    pub named : level_named (over ls) level ≡ Some old
    pub id_is : old.id ≡ level

  stands_at : (ls : List VoltageLevel) (level : List ℕ) (k : ℕ) → length ls ≡ level_total heads → position (λ (l : VoltageLevel). same_id level l.id) ls ≡ Some k → Stands_at ls level k
  unfolding level_named
  stands_at ls level k few found =
      let there = position_found (λ (l : VoltageLevel). same_id level l.id) ls k found in
      let old = some_got ls k there.0 in
      record {
        old = old.0;
        at = old.1;
        named = ap (find (λ (l : VoltageLevel). same_id level l.id)) (levels-network_of id heads ls ts lines few) ∙ find_at (λ (l : VoltageLevel). same_id level l.id) ls k old.0 found old.1;
        id_is = sym (same_is level old.0.id (there.1 old.0 old.1));
      }

  found_in : (ls : List VoltageLevel) (level : List ℕ) (k : ℕ) → length ls ≡ level_total heads → position (λ (l : VoltageLevel). same_id level l.id) ls ≡ Some k → find_level (over ls) level ≡ Some k
  unfolding find_level
  found_in ls level k few h = ap (position (λ (l : VoltageLevel). same_id level l.id)) (levels-network_of id heads ls ts lines few) ∙ h

  place_by : (home : Option (List ℕ)) (e : List ℕ) (side : ℕ) (end : End) (start ls : List VoltageLevel) (ends : List Side) (look : List ℕ → Option IdOwner) (places : List ℕ) (spot : LevelFound) → Stage start ls ends
      → ((q : List ℕ) → position (λ (l : VoltageLevel). same_id q l.id) start ≡ level_at places (look q)) → IsSpot heads places home (look end.level) spot
      → place_end home e side end (over ls) ≡ lift over (landed_at e spot end.node side ls)
  unfolding place_end landed_at level_named
  place_by home e side end start ls ends look places Nowhere g finds none =
      let place : position (λ (l : VoltageLevel). same_id end.level l.id) ls ≡ None =
      sym (position_map (same_id end.level) (λ (l : VoltageLevel). l.id) ls) ∙ ap (position (same_id end.level)) g.ids ∙ position_map (same_id end.level) (λ (l : VoltageLevel). l.id) start ∙ finds end.level ∙ none in
      let named : find (λ (l : VoltageLevel). same_id end.level l.id) (levels (over ls)) ≡ None =
      ap (find (λ (l : VoltageLevel). same_id end.level l.id)) (levels-network_of id heads ls ts lines g.few) ∙ none_found (λ (l : VoltageLevel). same_id end.level l.id) ls place in
      rw named refl
  place_by home e side end start ls ends look places Elsewhere g finds (k, found, away) =
      let place : position (λ (l : VoltageLevel). same_id end.level l.id) ls ≡ Some k =
      sym (position_map (same_id end.level) (λ (l : VoltageLevel). l.id) ls) ∙ ap (position (same_id end.level)) g.ids ∙ position_map (same_id end.level) (λ (l : VoltageLevel). l.id) start ∙ finds end.level ∙ found in
      let s = stands_at ls end.level k g.few place in
      let once : times end.level (ids_of ls) ≤ 1 = rw (levels-network_of id heads ls ts lines g.few) at (level_ids_once (over ls) g.midway.base.ids end.level) in
      let out : in_home (over ls) home end.level ≡ false = in_home_is id heads ls ts lines home end.level k g.few place once ∙ away in
      rw (s.named, out) refl
  place_by home e side end start ls ends look places (At keyed) g finds (found, key, inside) =
      let place : position (λ (l : VoltageLevel). same_id end.level l.id) ls ≡ Some keyed.place =
      sym (position_map (same_id end.level) (λ (l : VoltageLevel). l.id) ls) ∙ ap (position (same_id end.level)) g.ids ∙ position_map (same_id end.level) (λ (l : VoltageLevel). l.id) start ∙ finds end.level ∙ found in
      let s = stands_at ls end.level keyed.place g.few place in
      let once : times end.level (ids_of ls) ≤ 1 = rw (levels-network_of id heads ls ts lines g.few) at (level_ids_once (over ls) g.midway.base.ids end.level) in
      let home_is : in_home (over ls) home end.level ≡ true = in_home_is id heads ls ts lines home end.level keyed.place g.few place once ∙ inside in
      let t : Terminal = record { equipment = e; side = side } in
      rw (s.named, home_is, s.at) (by s place (level_with_terminal s.old end.node t BranchEnd) refl)
    where
      by : (s : Stands_at ls end.level keyed.place) → position (λ (l : VoltageLevel). same_id end.level l.id) ls ≡ Some keyed.place → (r : Result VoltageLevel Unfit)
          → level_with_terminal s.old end.node (record { equipment = e; side = side }) BranchEnd ≡ r
          → (map_fault edit_fault r >>= (λ changed. Ok (with_level changed (over ls)))) ≡ lift over (map_fault edit_fault r >>= (λ new. Ok (slice_set ls keyed.place new)))
      by s place (Err fault) h = refl
      by s place (Ok new) h =
          let k = placing s.old end.node (record { equipment = e; side = side }) BranchEnd new h in
          let name : new.id ≡ end.level = ap (λ (z : VoltageLevel). z.id) (sym k.is) ∙ s.id_is in
          let at_place : find_level (over ls) new.id ≡ Some keyed.place = rw name (found_in ls end.level keyed.place g.few place) in
          ap (λ (z : Network). Ok z) (flat_put id heads ls ts lines new keyed.place g.few g.midway.base.ids at_place)

  pub lifted : (home : Option (List ℕ)) (e : List ℕ) (look : List ℕ → Option IdOwner) (places : List ℕ) (start : List VoltageLevel) (those : List End) (landings : List Landing) (side : ℕ) (ls : List VoltageLevel) (ends : List Side)
      → Stage start ls ends → ((q : List ℕ) → position (λ (l : VoltageLevel). same_id q l.id) start ≡ level_at places (look q)) → AreLandings heads places look home side those landings
      → place_ends home e side those (over ls) ≡ lift over (landed e landings ls)
  unfolding place_ends landed
  lifted home e look places start [] [] side ls ends g finds are = refl
  lifted home e look places start [] (l ∷ landings) side ls ends g finds are = absurd are
  lifted home e look places start (end ∷ those) [] side ls ends g finds are = absurd are
  lifted home e look places start (end ∷ those) (l ∷ landings) side ls ends g finds are =
      let spot = place_by home e side end start ls ends look places l.spot g finds are.0.spot in
      let one : place_end home e side end (over ls) ≡ lift over (landed_at e l.spot l.node l.side ls) = rw (are.0.node, are.0.number) spot in
      by (landed_at e l.spot l.node l.side ls) refl one (λ mid h. lifted home e look places start those landings (side + 1) mid ((e, side, end.level, end.node) ∷ ends) h finds are.1)
    where
      by : (r : Result (List VoltageLevel) EditFault) → landed_at e l.spot l.node l.side ls ≡ r → place_end home e side end (over ls) ≡ lift over r
          → ((mid : List VoltageLevel) → Stage start mid ((e, side, end.level, end.node) ∷ ends) → place_ends home e (side + 1) those (over mid) ≡ lift over (landed e landings mid))
          → (place_end home e side end (over ls) >>= place_ends home e (side + 1) those) ≡ lift over (landed_at e l.spot l.node l.side ls >>= landed e landings)
      by (Err fault) h one again = rw (one, h) refl
      by (Ok mid) h one again =
          let same = same_step e l.spot l.side ls mid (lands e l.spot l.node l.side ls mid h) in
          let d = ended (over start) (over ls) (over mid) home e side end ends g.midway one in
          rw (one, h) (again mid (record { midway = d.midway; ids = same.ids ∙ g.ids; few = same_length mid ls same ∙ g.few }))

-- ---- the substation of a transformer

pub windings_homeless : (net : Network) (sub : List ℕ) (rated : List ℤ) → find_substation net sub ≡ None → windings_refused net sub rated ≡ Err faults.NoSubstation
unfolding find_substation windings_refused substation_named
windings_homeless net sub rated none = rw (none_found (λ (s : Substation). same_id sub s.id) net.substations none) refl

pub windings_fine : (net : Network) (sub : List ℕ) (rated : List ℤ) (j : ℕ) → find_substation net sub ≡ Some j → rated_fault rated ≡ None → windings_refused net sub rated ≡ Ok tt
unfolding find_substation windings_refused substation_named
windings_fine net sub rated j found fine =
    let s = some_got net.substations j (position_found (λ (s : Substation). same_id sub s.id) net.substations j found).0 in
    rw (find_at (λ (s : Substation). same_id sub s.id) net.substations j s.0 found s.1, fine) refl

pub windings_unfit : (net : Network) (sub : List ℕ) (rated : List ℤ) (j : ℕ) (fault : CheckFault) → find_substation net sub ≡ Some j → rated_fault rated ≡ Some fault → windings_refused net sub rated ≡ Err (faults.Check fault)
unfolding find_substation windings_refused substation_named
windings_unfit net sub rated j fault found bad =
    let s = some_got net.substations j (position_found (λ (s : Substation). same_id sub s.id) net.substations j found).0 in
    rw (find_at (λ (s : Substation). same_id sub s.id) net.substations j s.0 found s.1, bad) refl
