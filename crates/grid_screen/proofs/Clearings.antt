-- What is opened and removed when a fault is cleared, one after the other.
use Rattle.std.proofs.Common.{◌≡◌, refl, sym, ap, ◌∙◌, subst, ℕ, suc, ◌+◌, ◌<◌, ◌≤◌, Bool, true, false, cond, not, List, [], ◌∷◌, ◌++◌, map, length, get_or, take, arith, Some, None, Option, append_assoc, inl, inr}
use Rattle.std.specs.Prelude.{slice_get, filter, Box}
use Rattle.std.specs.declared.alloc.Global.{Global}
use Rattle.std.specs.List.{flat_map, enumerate_from, list_all}
use Rattle.std.proofs.lemmas.Bool.{and_from}
use Rattle.std.proofs.lemmas.List.{append-nil, take_more}
use Rattle.std.proofs.lemmas.Option.{slice_get_past}
use Rattle.std.proofs.lemmas.List.Sums.{fold-append}
use Rattle.grid_groups.proofs.Steps.{passed_next, skipped_next}
use Rattle.grid_islands.proofs.BranchPairs.{gathered_more}
use Rattle.grid_lemmas.proofs.Lists.{all_at, length_map}
use Rattle.grid_ids.specs.Name.{has_id}
use Rattle.grid_json.specs.Seen.{Knows}
use Rattle.grid_level.specs.declared.Placed.{Placed}
use Rattle.grid_level.specs.declared.Switch.{Switch}
use Rattle.grid_level.specs.VoltageLevel.{VoltageLevel}
use Rattle.grid_level.specs.Kept.{among}
use Rattle.grid_level.specs.Passing.{nodes, positioned}
use Rattle.grid_level.specs.Sound.{level_passes}
use Rattle.grid_states.specs.Rows.{row_at}
use Rattle.grid_structure.specs.declared.SwitchAt.{SwitchAt}
use Rattle.grid_structure.specs.Network.{Network}
use Rattle.grid_structure.specs.Sites.{levels, switch_spot}
use Rattle.grid_core.specs.declared.case.Case.{Case}
use Rattle.grid_core.specs.Solo.{State}
use Rattle.grid_contingencies.specs.declared.FaultCase.{FaultCase}
use Rattle.grid_sparse.specs.Options.{present}
use Rattle.grid_sparse.proofs.Passes.{flat_map_present}
use Rattle.grid_screen.specs.declared.walk.Touched.{Touched}
use Rattle.grid_screen.specs.Faults.{trips, spots_that, switch_ids, in_zone, equipment_in, zone_equipment, before_fault, tripped_of, clearing_of, cleared_of, IsClearing}
use Rattle.grid_screen.specs.FaultLaws.{ClearedIsOutage}
use Rattle.grid_screen.specs.Findings.{state_in}
use Rattle.grid_screen.specs.Grounds.{Ground, IsGround}
use Rattle.grid_screen.specs.Opening.{network_trips, trips_at, AreSwitches, equipment_hit, equipment_at, network_equipment}
use Rattle.grid_screen.specs.Outages.{is_switch, with_out, state_without}
use Rattle.grid_screen.specs.Scenes.{IsScene}
use Rattle.grid_outages.specs.Changes.{level_without}
use Rattle.grid_screen.specs.Walks.{Touches, touched_at, hits_in, hits_by, hits, IsNode, IsTouched, AreTouched, IsSettled}
use Rattle.grid_screen.specs.Zones.{site_at, network_sites, sites_of}
use Rattle.grid_screen.proofs.Got.{got_or}
use Rattle.grid_screen.proofs.WalkSteps.{got_below, node_there}
use Rattle.grid_screen.proofs.HitSites.{filter_last}
use Rattle.grid_outages.proofs.Members.{Among, among_got, got_among, filter_among, filter_agrees, map_among, flat_among, enumerate_among}
use Rattle.grid_screen.proofs.FaultEdges.{keeps_of}
use Rattle.grid_screen.proofs.WalkResults.{map_back}
use Rattle.grid_screen.proofs.FaultScenes.{zone_found}
use Rattle.grid_screen.proofs.BreakerTrips.{filter_none, zone_hits, long_in, tripped_found}

-- ---- one after the other

module _ {X : Type 0} (p : X → Bool) (xs : List X) (i : ℕ) (x : X) (lt : i < length xs) (at : x ≡ get_or xs i x) where
  pub filter_step : (t : Bool) → p x ≡ t → filter p (take (i + 1) xs) ≡ filter p (take i xs) ++ cond t (x ∷ []) []
  filter_step t e =
      ap (filter p) (take_more xs i x lt ∙ ap (λ (z : X). take i xs ++ z ∷ []) (sym at)) ∙ filter_last p (take i xs) x ∙ ap (λ z. filter p (take i xs) ++ cond z (x ∷ []) []) e

  pub filter_more : (start old new : List X) → p x ≡ true → old ≡ start ++ filter p (take i xs) → new ≡ old ++ x ∷ [] → new ≡ start ++ filter p (take (i + 1) xs)
  filter_more start old new e was is = is ∙ ap (λ z. z ++ x ∷ []) was ∙ append_assoc start (filter p (take i xs)) (x ∷ []) ∙ ap (λ z. start ++ z) (sym (filter_step true e))

  pub filter_skipped : (start old : List X) → p x ≡ false → old ≡ start ++ filter p (take i xs) → old ≡ start ++ filter p (take (i + 1) xs)
  filter_skipped start old e was = was ∙ ap (λ z. start ++ z) (sym (filter_step false e ∙ append-nil (filter p (take i xs))))

module _ {X Y : Type 0} (f : X → List Y) where
  pub flat_step : (xs : List X) (i : ℕ) (x : X) (start old new : List Y) → slice_get xs i ≡ Some x → old ≡ start ++ flat_map f (take i xs) → new ≡ old ++ f x → new ≡ start ++ flat_map f (take (i + 1) xs)
  flat_step xs i x start old new at was is =
      is ∙ ap (λ z. z ++ f x) was ∙ append_assoc start (flat_map f (take i xs)) (f x) ∙ ap (λ z. start ++ z) (gathered_more f xs i (flat_map f (take i xs)) x (got_below xs i x at) refl at)

pub item_at : {X : Type 0} (xs : List X) (i : ℕ) (x : X) → i < length xs → x ≡ get_or xs i x → slice_get xs i ≡ Some x
item_at {X} xs i x lt at = got_or xs i x lt ∙ ap (λ (z : X). Some z) (sym at)

-- the id of a switch that is read
pub switch_read : (net : Network) (at : SwitchAt) (l : VoltageLevel) (s : Switch) → slice_get (levels net) at.level ≡ Some l → slice_get l.switches at.place ≡ Some s → switch_ids net at ≡ s.id ∷ []
unfolding switch_ids
switch_read net at l s there is = rw (there, is) refl

-- past the levels, or past the switches of a level, there is none
pub level_missing : (net : Network) (at : SwitchAt) → length (levels net) ≤ at.level → switch_ids net at ≡ []
unfolding switch_ids
level_missing net at past = rw (slice_get_past (levels net) at.level past) refl

pub switch_missing : (net : Network) (at : SwitchAt) (l : VoltageLevel) → slice_get (levels net) at.level ≡ Some l → length l.switches ≤ at.place → switch_ids net at ≡ []
unfolding switch_ids
switch_missing net at l there past = rw (there, slice_get_past l.switches at.place past) refl

-- ---- the breakers that trip are switches

pub trips_are_switches : (g : Ground) (hit : List (List ℕ)) (touched : Touches) → AreSwitches g.net (network_trips g hit touched)
unfolding network_trips trips_at spots_that
trips_are_switches g hit touched i at got =
    let all = enumerate_from 0 (levels g.net) in
    let of_level = flat_among (trips_at g hit touched) at all (among_got (flat_map (trips_at g hit touched) all) i at got) in
    let k = of_level.0.0 in
    let l = of_level.0.1 in
    let ss = (positioned l (row_at g.opened k)).switches in
    let test = trips g.stuck hit (λ node. hits touched (site_at k node)) in
    let own = map_among (λ (s : ℕ × Switch). switch_spot (k, s.0)) at (filter (λ (s : ℕ × Switch). test s.1) (enumerate_from 0 ss)) of_level.2 in
    let inside = filter_among (λ (s : ℕ × Switch). test s.1) own.0 (enumerate_from 0 ss) own.1 in
    let spot = enumerate_among ss 0 own.0 inside.0 in
    let place = enumerate_among (levels g.net) 0 of_level.0 of_level.1 in
    let level : at.level ≡ place.0 = omega (arith, ap (λ (z : SwitchAt). z.level) own.2, place.1) in
    let less = got_below ss spot.0 own.0.1 spot.2 in
    let long = long_in l (row_at g.opened k) in
    record {
      level = l;
      there = ap (slice_get (levels g.net)) level ∙ place.2;
      inside = omega (arith, less, long, spot.1, ap (λ (z : SwitchAt). z.place) own.2);
    }

-- ---- terminals that are hit

pub terminals_more : (t : Touched) (ps : List Placed) (i : ℕ) (p : Placed) (start old new : List (List ℕ)) → i < length ps → p ≡ get_or ps i p → hits_in t p.node ≡ true
    → old ≡ start ++ equipment_hit t (take i ps) → new ≡ old ++ p.terminal.equipment ∷ [] → new ≡ start ++ equipment_hit t (take (i + 1) ps)
unfolding equipment_hit
terminals_more t ps i p start old new lt at e was is =
    is ∙ ap (λ z. z ++ p.terminal.equipment ∷ []) was ∙ append_assoc start (map (λ (q : Placed). q.terminal.equipment) (filter (λ (q : Placed). hits_in t q.node) (take i ps))) (p.terminal.equipment ∷ [])
    ∙ ap (λ z. start ++ z) (passed_next (λ (q : Placed). q.terminal.equipment) (λ (q : Placed). hits_in t q.node) ps i p lt at e)

pub terminals_skipped : (t : Touched) (ps : List Placed) (i : ℕ) (p : Placed) (start old : List (List ℕ)) → i < length ps → p ≡ get_or ps i p → hits_in t p.node ≡ false
    → old ≡ start ++ equipment_hit t (take i ps) → old ≡ start ++ equipment_hit t (take (i + 1) ps)
unfolding equipment_hit
terminals_skipped t ps i p start old lt at e was =
    was ∙ ap (λ z. start ++ z) (skipped_next (λ (q : Placed). q.terminal.equipment) (λ (q : Placed). hits_in t q.node) ps i p lt at e)

-- ---- level by level

pub present_long : (g : Ground) → IsGround g → length g.present ≡ length (levels g.net)
present_long g b = ap length b.left ∙ length_map (level_without b.removed) (levels g.net)

-- the terminals of a level, if it is there
abbrev pub placed_of : Option VoltageLevel → List Placed
placed_of (Some l) = l.placed
placed_of None = []

-- that of a level that was hit, by its place
abbrev pub equipment_of : Ground → ℕ × Box Touched Global → List (List ℕ)
equipment_of g at = equipment_hit at.1.value (placed_of (slice_get g.present at.0))

no_equipment : (touched : Touches) (k : ℕ) (m : VoltageLevel) → touched_at touched k ≡ None → equipment_at touched (k, m) ≡ []
unfolding hits equipment_at
no_equipment touched k m at =
    ap (λ (z : Option (Box Touched Global)). map (λ (p : Placed). p.terminal.equipment) (filter (λ (p : Placed). hits_by z p.node) m.placed)) at
    ∙ ap (map (λ (p : Placed). p.terminal.equipment)) (filter_none (λ (p : Placed). hits_by None p.node) m.placed (λ p. refl))

own_equipment : (g : Ground) (touched : Touches) (k : ℕ) (here : Box Touched Global) (m : VoltageLevel) → touched_at touched k ≡ Some here → slice_get g.present k ≡ Some m → equipment_at touched (k, m) ≡ equipment_of g (k, here)
unfolding hits equipment_at equipment_hit
own_equipment g touched k here m at got =
    ap (λ (z : Option (Box Touched Global)). map (λ (p : Placed). p.terminal.equipment) (filter (λ (p : Placed). hits_by z p.node) m.placed)) at
    ∙ ap (λ (z : Option VoltageLevel). map (λ (p : Placed). p.terminal.equipment) (filter (λ (p : Placed). hits_in here.value p.node) (placed_of z))) (sym got)

-- that of all levels is that of the levels that were hit
pub equipment_present : (g : Ground) (touched : Touches) → IsGround g → AreTouched g touched → network_equipment g touched ≡ flat_map (equipment_of g) (present touched)
unfolding network_equipment
equipment_present g touched b each = flat_map_present (equipment_at touched) (equipment_of g) touched g.present (each.long ∙ sym (present_long g b)) (λ k m none got. no_equipment touched k m none) (λ k here m some got. own_equipment g touched k here m some got)

-- ---- by the zone

-- the terminals before the fault stand at nodes
pub placed_is_node : (g : Ground) (b : IsGround g) (k : ℕ) (m : VoltageLevel) (p : Placed) → slice_get g.present k ≡ Some m → Among p m.placed → IsNode g.net (site_at k p.node)
unfolding level_without
placed_is_node g b k m p at i =
    let l = map_back (level_without b.removed) (levels g.net) k m (ap (λ (z : List VoltageLevel). slice_get z k) (sym b.left) ∙ at) in
    let keep = λ (q : Placed). not (has_id b.removed q.terminal.equipment) in
    let both = filter_among keep p l.0.placed (subst (λ (z : VoltageLevel). Among p z.placed) (sym l.2) i) in
    let got = got_among p l.0.placed both.0 in
    let keeps = keeps_of l.0 (all_at level_passes (levels g.net) k l.0 b.sound.each_level l.1) in
    record { level = l.0; at = l.1; node = all_at (λ (q : Placed). among (nodes l.0) q.node) l.0.placed got.0 p keeps.placed_are_nodes got.1 }

flat_same : {X Y : Type 0} (f h : ℕ × X → List Y) (low : ℕ) (xs : List X) → ((k : ℕ) (x : X) → slice_get xs k ≡ Some x → f (low + k, x) ≡ h (low + k, x)) → flat_map f (enumerate_from low xs) ≡ flat_map h (enumerate_from low xs)
flat_same f h low [] each = refl
flat_same {X} f h low (x ∷ xs) each =
    let zero_more : low + 0 ≡ low = omega arith in
    let here : f (low, x) ≡ h (low, x) = ap (λ (z : ℕ). f (z, x)) (sym zero_more) ∙ each 0 x refl ∙ ap (λ (z : ℕ). h (z, x)) zero_more in
    let rest = flat_same f h (low + 1) xs (λ k y at. let moved : (low + 1) + k ≡ low + suc k = omega arith in ap (λ (z : ℕ). f (z, y)) moved ∙ each (suc k) y at ∙ ap (λ (z : ℕ). h (z, y)) (sym moved)) in
    ap (λ z. z ++ flat_map f (enumerate_from (low + 1) xs)) here ∙ ap (λ z. h (low, x) ++ z) rest

pub equipment_is : (g : Ground) (b : IsGround g) (before : State) (touched : Touches) → levels before.structure ≡ g.present → network_equipment g touched ≡ zone_equipment before (filter (hits touched) (network_sites g.net))
unfolding network_equipment zone_equipment equipment_at equipment_in
equipment_is g b before touched levels_are =
    let zone = filter (hits touched) (network_sites g.net) in
    flat_same (equipment_at touched) (equipment_in zone) 0 g.present
    (λ k m at. let none : 0 + k ≡ k = omega arith in
    ap (λ (z : ℕ). equipment_at touched (z, m)) none
    ∙ ap (map (λ (p : Placed). p.terminal.equipment)) (filter_agrees (λ (p : Placed). hits touched (site_at k p.node)) (λ (p : Placed). in_zone zone k p.node) m.placed
    (λ p i. sym (zone_hits g.net touched k p.node (placed_is_node g b k m p at i))))
    ∙ ap (λ (z : ℕ). equipment_in zone (z, m)) (sym none))
    ∙ ap (λ z. flat_map (equipment_in zone) (enumerate_from 0 z)) (sym levels_are)

pub clearing_found : (case : Case) (fault : FaultCase) (g : Ground) (own : IsGround g) → IsScene case fault g → (hit : List (List ℕ)) (touched : Touches) → Knows hit fault.fault
    → IsSettled g (flat_map (sites_of g.net) fault.fault) touched
    → IsClearing case fault (flat_map (switch_ids case.structure) (network_trips g hit touched) ++ (filter (is_switch case.structure) fault.fault ++ network_equipment g touched))
unfolding clearing_of
clearing_found case fault g own is hit touched hit_are settled retained =
    let zone = filter (hits touched) (network_sites g.net) in
    let before = before_fault (state_in case retained) fault in
    let tail = filter (is_switch case.structure) fault.fault in
    let tripped = tripped_found case fault g own is hit touched hit_are settled retained in
    let equipment = equipment_is g own before touched (sym (is.levels_are retained)) ∙ ap (zone_equipment before) (zone_found case fault g own is touched zone settled refl retained) in
    ap (λ z. flat_map (switch_ids case.structure) z ++ (tail ++ network_equipment g touched)) tripped
    ∙ ap (λ z. flat_map (switch_ids case.structure) (tripped_of (state_in case retained) fault) ++ (tail ++ z)) equipment

-- when the fault is cleared, that is out too
pub cleared_is : ClearedIsOutage
unfolding cleared_of before_fault state_without
cleared_is state fault = sym (fold-append (with_out state.structure) state fault.out (clearing_of state fault))

pub placed_in : (g : Ground) (b : IsGround g) (k : ℕ) (t : Touched) (m : VoltageLevel) → IsTouched g k t → slice_get g.present k ≡ Some m → list_all (λ (p : Placed). among (nodes t.level.now) p.node) m.placed ≡ true
placed_in g b k t m h at = all_so (λ (p : Placed). among (nodes t.level.now) p.node) m.placed (λ p i. node_there g (site_at k p.node) t (placed_is_node g b k m p at i) h)
  where
    all_so : (test : Placed → Bool) (ps : List Placed) → ((p : Placed) → Among p ps → test p ≡ true) → list_all test ps ≡ true
    all_so test [] h = refl
    all_so test (p ∷ ps) h = and_from (test p) (list_all test ps) (h p (inl refl)) (all_so test ps (λ q i. h q (inr i)))
