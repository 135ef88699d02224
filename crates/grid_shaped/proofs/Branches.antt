-- What a branch makes of a level with configured buses: its ends by bus in this level, by side.
use Rattle.std.proofs.Common.{◌≡◌, refl, sym, ap, ◌∙◌, subst, ℕ, pos, ◌+◌, Bool, true, false, List, [], ◌∷◌, ◌++◌, length, Option, Some, None, Result, Ok, Err, arith}
use Rattle.std.specs.Prelude.{map, ⊤}
use Rattle.std.proofs.lemmas.Bool.{false≢true}
use Rattle.std.proofs.lemmas.List.Elements.{All-append}
use Rattle.grid_ids.specs.Name.{same_id}
use Rattle.grid_ids.proofs.Alike.{same_is}
use Rattle.grid_level.specs.Passing.{nodes}
use Rattle.grid_structure.specs.declared.Branch.{Branch}
use Rattle.grid_structure.specs.declared.Edit.TheVariants as edits
use Rattle.grid_structure.specs.declared.End.{End}
use Rattle.grid_structure.specs.Network.{Network}
use Rattle.grid_structure.specs.Sites.{branch_ends, find_level, home_of, level_named}
use Rattle.grid_structure.specs.Editing.{apply, place_ends}
use Rattle.grid_placed.specs.Places.{Joint, Outlet, PlacesFit}
use Rattle.grid_placed.proofs.Nodes.{StandsWell}
use Rattle.grid_json.specs.declared.buses.BusLevelDraft.{BusLevelDraft}
use Rattle.grid_json.specs.declared.buses.EndDraft.{EndDraft}
use Rattle.grid_json.specs.declared.buses.EndDraft.TheVariants as ends
use Rattle.grid_json.specs.declared.ends.Two.{Two}
use Rattle.grid_json.specs.declared.ends.Three.{Three}
use Rattle.grid_json.specs.declared.fault.Fault.{Fault}
use Rattle.grid_json.specs.Loading.{Loaded, by_bus_in, edited, end_breaker, end_check, end_fits, end_fits_in, is_by_bus, level_of, next_behind, placed_end, three_breakers, three_check, three_load, three_nodes, three_placed, two_breakers, two_check, two_load, two_nodes, two_placed, with_network}
use Rattle.grid_json.proofs.BusLoops.{accepted}
use Rattle.grid_json.proofs.BusPlaces.{no_level}
use Rattle.grid_json.proofs.Results.{bound}
use Rattle.grid_shaped.specs.Drafts.{branch_outlets, joint_of, placed_with}
use Rattle.grid_shaped.proofs.LevelChanges.{Stays}
use Rattle.grid_shaped.proofs.Additions.{branch_joined, home_stays, joined_stays}
use Rattle.grid_shaped.proofs.Parts.{nodes_counted, part, plain_of}
use Rattle.grid_shaped.proofs.Ends.{EndFits, PartAt}
use Rattle.grid_shaped.proofs.Sides.{AllFit, Broken, breakers_more, ends_more, join_plain, sided, sided_plain}

-- ---- a level that is loaded, with these terminals so far

abbrev pub joints_of : BusLevelDraft → List Joint
joints_of l = map (joint_of l.buses) l.switches

pub record Standing (s : Loaded) (home : List ℕ) (l : BusLevelDraft) (ts : List Outlet) : Type 0 where
  pub marked : s.bus_levels l.id ≡ true
  pub whole : PartAt l home (joints_of l) ts ts s.network
  pub fits : PlacesFit (placed_with l (joints_of l) ts)

level_is : (net : Network) (earlier : ℕ) (e : EndDraft) → (placed_end net earlier e).level ≡ level_of e
unfolding placed_end
level_is net earlier (ends.Node e) = refl
level_is net earlier (ends.Bus e) = refl

module _ (s : Loaded) (home : List ℕ) (l : BusLevelDraft) (ts : List Outlet) (st : Standing s home l ts) where
  -- an end in this level is by bus
  by_bus : (e : EndDraft) (u : ⊤) → end_check s e ≡ Ok u → same_id l.id (level_of e) ≡ true → is_by_bus e ≡ true
  unfolding end_check
  by_bus (ends.Bus e) u h same = refl
  by_bus (ends.Node e) u h same = by (find_level s.network e.level) refl h
    where
      own : l.id ≡ e.level
      own = same_is l.id e.level same

      by : (o : Option ℕ) → find_level s.network e.level ≡ o → end_fits_in o s (ends.Node e) ≡ Ok u → false ≡ true
      by None is k =
          let none : level_named s.network l.id ≡ None = ap (level_named s.network) own ∙ no_level s.network e.level is in
          cc (none, st.whole.named)
      by (Some place) is k =
          let marked : s.bus_levels e.level ≡ true = ap s.bus_levels (sym own) ∙ st.marked in
          let fault : end_fits true s.network (ends.Node e) ≡ Ok u = ap (λ z. end_fits z s.network (ends.Node e)) (sym marked) ∙ k in
          cc (fault)

  -- and has the next node of the level, behind the earlier ends
  fitting_end : (e : EndDraft) (u : ⊤) (earlier at : ℕ) → end_check s e ≡ Ok u → (same_id l.id (level_of e) ≡ true → at ≡ length l.buses + length ts + earlier) → EndFits l e (placed_end s.network earlier e).node at
  unfolding placed_end
  fitting_end (ends.Node e) u earlier at h behind = record { by_bus = by_bus (ends.Node e) u h; node_is = λ same. absurd (false≢true (by_bus (ends.Node e) u h same)) }
  fitting_end (ends.Bus e) u earlier at h behind = record {
    by_bus = by_bus (ends.Bus e) u h;
    node_is = λ same.
        let there : level_named s.network e.level ≡ Some (part l (joints_of l) ts ts) = ap (level_named s.network) (sym (same_is l.id e.level same)) ∙ st.whole.named in
        let number : length (nodes (part l (joints_of l) ts ts)) + earlier ≡ at = omega (arith, nodes_counted l (joints_of l) ts st.fits, behind same) in
        ap (λ z. pos (next_behind z earlier)) there ∙ ap (λ (z : ℕ). pos z) number;
  }

-- what a branch with these ends made of the level
pub record Branched (t : Loaded) (home : List ℕ) (l : BusLevelDraft) (ts more : List Outlet) (branch_home : Option (List ℕ)) : Type 0 where
  pub standing : Standing t home l (ts ++ more)
  pub foreign : (sub : List ℕ) → branch_home ≡ Some sub → same_id sub home ≡ false → more ≡ []

pub networks : (s t : Loaded) (r : Result Network Fault) → with_network s r ≡ Ok t → (r ≡ Ok t.network) × (t.bus_levels ≡ s.bus_levels)
networks s t (Ok net) h =
    let same : ◌≡◌ {A = Loaded} (record { network = net; bus_levels = s.bus_levels }) t = cc in
    (ap (λ (z : Loaded). Ok z.network) same, ap (λ (z : Loaded). z.bus_levels) (sym same))
networks s t (Err fault) h = cc

pub stays_part : (l : BusLevelDraft) (home : List ℕ) (js : List Joint) (ds ps : List Outlet) (net new : Network) → PartAt l home js ds ps net → Stays l.id net new → PartAt l home js ds ps new
stays_part l home js ds ps net new at stays = record { named = stays.named ∙ at.named; at_home = home_stays net new home l.id at.at_home stays.homes }

-- what a branch with these ends, whose breakers were added, made of the level
module _ (home : List ℕ) (l : BusLevelDraft) (ts : List Outlet) (branch_home : Option (List ℕ)) (id : List ℕ) (s t : Loaded) (st : Standing s home l ts) where
  branch_more : (shape : Branch) (es : List EndDraft) (ps : List End) (added : Network) → branch_ends shape ≡ ps → home_of shape ≡ branch_home → AllFit l (length l.buses + length ts) es ps
      → edited (edits.AddBranch id shape) s.network ≡ Ok added → Broken id 1 es ps added t.network → t.bus_levels ≡ s.bus_levels → Branched t home l ts (branch_outlets l id es) branch_home
  unfolding branch_outlets
  branch_more shape es ps added ends_are home_is fit add broken same =
      let js = joints_of l in
      let more = sided l id 1 es in
      let joined = branch_joined s.network added id shape (accepted (apply s.network (edits.AddBranch id shape)) added add) in
      let all_placed : place_ends branch_home id 1 ps s.network ≡ Ok joined.placed =
      subst (λ (z : List End). place_ends branch_home id 1 z s.network ≡ Ok joined.placed) ends_are (subst (λ (z : Option (List ℕ)). place_ends z id 1 (branch_ends shape) s.network ≡ Ok joined.placed) home_is joined.ends) in
      let placed = ends_more l home js id branch_home ts 1 es ps ts s.network joined.placed fit st.whole all_placed in
      let listed = stays_part l home js ts (ts ++ more) joined.placed added placed.stand (joined_stays s.network added id shape joined l.id) in
      let plain = join_plain ts more (plain_of (length l.buses) ts st.fits.outlets) (sided_plain l id 1 es) in
      let broke = breakers_more l home js id (ts ++ more) plain 1 es ps ts added t.network fit listed broken in
      record {
        standing = record {
          marked = ap (λ (z : List ℕ → Bool). z l.id) same ∙ st.marked;
          whole = broke.at;
          fits = record { joints = st.fits.joints; outlets = All-append (StandsWell (length l.buses)) ts more st.fits.outlets broke.well };
        };
        foreign = placed.foreign;
      }

  abbrev start : ℕ
  start = length l.buses + length ts

  pub two_more : (shape : Two End → Branch) → ((x : Two End) → branch_ends (shape x) ≡ x.first ∷ x.second ∷ []) → ((x : Two End) → home_of (shape x) ≡ branch_home) → (two : Two EndDraft) → two_load shape id two s ≡ Ok t
      → Branched t home l ts (branch_outlets l id (two.first ∷ two.second ∷ [])) branch_home
  unfolding two_load two_check two_placed two_breakers
  two_more shape shape_ends shape_home two h =
      let check = bound (two_check s id two) _ t h in
      let check1 = bound (end_check s two.first) _ check.0 check.1 in
      let check2 = bound (end_check s two.second) _ check.0 check1.2 in
      let placed : Two End = two_placed s.network two in
      let added = bound (edited (edits.AddBranch id (shape placed)) s.network) _ t check.2 in
      let done = networks s t (two_breakers id two (two_nodes placed) added.0) added.2 in
      let break1 = bound (end_breaker id 1 two.first placed.first.node added.0) _ t.network done.0 in
      let earlier = by_bus_in (level_of two.second) two.first in
      let fit1 = fitting_end s home l ts st two.first check1.0 0 start check1.1 (λ same. omega arith) in
      let fit2 = fitting_end s home l ts st two.second check2.0 earlier (start + by_bus_in l.id two.first) check2.1 (λ same. ap (λ z. start + by_bus_in z two.first) (same_is l.id (level_of two.second) same)) in
      branch_more (shape placed) (two.first ∷ two.second ∷ []) (placed.first ∷ placed.second ∷ []) added.0 (shape_ends placed) (shape_home placed)
      (level_is s.network 0 two.first, fit1, (level_is s.network earlier two.second, fit2, tt)) added.1 (break1.0, break1.1, (t.network, break1.2, refl)) done.1

  pub three_more : (shape : Three End → Branch) → ((x : Three End) → branch_ends (shape x) ≡ x.first ∷ x.second ∷ x.third ∷ []) → ((x : Three End) → home_of (shape x) ≡ branch_home) → (three : Three EndDraft) → three_load shape id three s ≡ Ok t
      → Branched t home l ts (branch_outlets l id (three.first ∷ three.second ∷ three.third ∷ [])) branch_home
  unfolding three_load three_check three_placed three_breakers
  three_more shape shape_ends shape_home three h =
      let check = bound (three_check s id three) _ t h in
      let check1 = bound (end_check s three.first) _ check.0 check.1 in
      let check2 = bound (end_check s three.second) _ check.0 check1.2 in
      let check3 = bound (end_check s three.third) _ check.0 check2.2 in
      let placed : Three End = three_placed s.network three in
      let added = bound (edited (edits.AddBranch id (shape placed)) s.network) _ t check.2 in
      let done = networks s t (three_breakers id three (three_nodes placed) added.0) added.2 in
      let break1 = bound (end_breaker id 1 three.first placed.first.node added.0) _ t.network done.0 in
      let break2 = bound (end_breaker id 2 three.second placed.second.node break1.0) _ t.network break1.2 in
      let before2 = by_bus_in (level_of three.second) three.first in
      let first3 = by_bus_in (level_of three.third) three.first in
      let second3 = by_bus_in (level_of three.third) three.second in
      let next2 = start + by_bus_in l.id three.first in
      let next3 = next2 + by_bus_in l.id three.second in
      let fit1 = fitting_end s home l ts st three.first check1.0 0 start check1.1 (λ same. omega arith) in
      let fit2 = fitting_end s home l ts st three.second check2.0 before2 next2 check2.1 (λ same. ap (λ z. start + by_bus_in z three.first) (same_is l.id (level_of three.second) same)) in
      let fit3 = fitting_end s home l ts st three.third check3.0 (first3 + second3) next3 check3.1
      (λ same. let own = same_is l.id (level_of three.third) same in
      let e : by_bus_in l.id three.first ≡ first3 = ap (λ z. by_bus_in z three.first) own in
      let f : by_bus_in l.id three.second ≡ second3 = ap (λ z. by_bus_in z three.second) own in
      omega (arith, e, f)) in
      branch_more (shape placed) (three.first ∷ three.second ∷ three.third ∷ []) (placed.first ∷ placed.second ∷ placed.third ∷ []) added.0 (shape_ends placed) (shape_home placed)
      (level_is s.network 0 three.first, fit1, (level_is s.network before2 three.second, fit2, (level_is s.network (first3 + second3) three.third, fit3, tt)))
      added.1 (break1.0, break1.1, (break2.0, break2.1, (t.network, break2.2, refl))) done.1
