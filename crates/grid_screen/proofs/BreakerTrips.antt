-- The breakers that trip, level by level and switch by switch.
use Rattle.std.proofs.Common.{◌≡◌, refl, sym, ap, ◌∙◌, subst, ℕ, zero, suc, ◌+◌, ◌≤◌, Bool, true, false, cond, ◌&&◌, ◌||◌, List, [], ◌∷◌, ◌++◌, map, length, get_or, take, arith, Some, None, Option, append_assoc}
use Rattle.std.specs.Prelude.{slice_get, filter, Box, ◌==◌}
use Rattle.std.specs.declared.alloc.Global.{Global}
use Rattle.std.specs.List.{flat_map, enumerate_from, list_any}
use Rattle.std.proofs.lemmas.Bool.{and_parts, and_from, eqb-true, eq-eqb}
use Rattle.std.proofs.lemmas.List.{append-nil, take_all}
use Rattle.std.proofs.lemmas.List.FromFn.{length-enumerate_from}
use Rattle.grid_ids.specs.Name.{has_id}
use Rattle.grid_lemmas.proofs.Bools.{same_test}
use Rattle.grid_lemmas.proofs.Lists.{take_got}
use Rattle.grid_level.specs.declared.Switch.{Switch}
use Rattle.grid_level.specs.VoltageLevel.{VoltageLevel}
use Rattle.grid_level.specs.Passing.{with_opened, positioned}
use Rattle.grid_states.specs.Rows.{row_at}
use Rattle.grid_structure.specs.declared.Site.{Site}
use Rattle.grid_structure.specs.declared.SwitchAt.{SwitchAt}
use Rattle.grid_structure.specs.Network.{Network}
use Rattle.grid_structure.specs.Sites.{levels, switch_spot}
use Rattle.grid_sparse.specs.Options.{present}
use Rattle.grid_sparse.proofs.Passes.{flat_map_present}
use Rattle.grid_screen.specs.declared.walk.Touched.{Touched}
use Rattle.grid_core.specs.declared.case.Case.{Case}
use Rattle.grid_core.specs.Solo.{State, positioned_at}
use Rattle.grid_json.specs.Seen.{Knows}
use Rattle.grid_contingencies.specs.declared.FaultCase.{FaultCase}
use Rattle.grid_screen.specs.Faults.{can_trip, trips, spots_that, same_site, in_zone, tripped_in, tripped_from, tripped_of, before_fault, AreTripped}
use Rattle.grid_screen.specs.Findings.{state_in}
use Rattle.grid_screen.specs.Scenes.{IsScene}
use Rattle.grid_outages.specs.Changes.{level_without}
use Rattle.grid_screen.specs.Grounds.{Ground, IsGround, with_flag_of}
use Rattle.grid_screen.specs.Opening.{level_trips, trips_at, network_trips}
use Rattle.grid_screen.specs.Walks.{Touches, touched_at, hits_in, hits_by, hits, IsNode, IsTouchedBy, AreTouched, IsSettled}
use Rattle.grid_screen.specs.Zones.{site_at, network_sites, sites_of}
use Rattle.grid_screen.proofs.Got.{got_or}
use Rattle.grid_screen.proofs.WalkSteps.{got_below}
use Rattle.grid_screen.proofs.HitSites.{enumerate_got, filter_last}
use Rattle.grid_outages.proofs.Members.{any_among, any_found, among_filter, filter_among, filter_agrees, enumerate_among}
use Rattle.grid_screen.proofs.Sitings.{first_is_node, second_is_node}
use Rattle.grid_screen.proofs.FaultScenes.{past, zone_found}
use Rattle.grid_screen.proofs.FaultZones.{node_among}

-- ---- switch by switch

-- where those of the first switches are
abbrev pub spots_before : (Switch → Bool) → ℕ → List Switch → ℕ → List SwitchAt
spots_before test place ss i = map (λ s. switch_spot (place, s.0)) (filter (λ s. test s.1) (take i (enumerate_from 0 ss)))

map_last : {X Y : Type 0} (f : X → Y) (xs ys : List X) → map f (xs ++ ys) ≡ map f xs ++ map f ys
map_last f [] ys = refl
map_last f (x ∷ xs) ys = ap (λ z. f x ∷ z) (map_last f xs ys)

spots_step : (test : Switch → Bool) (place : ℕ) (ss : List Switch) (i : ℕ) (s : Switch) (t : Bool) → slice_get ss i ≡ Some s → test s ≡ t
    → spots_before test place ss (i + 1) ≡ spots_before test place ss i ++ map (λ (s : ℕ × Switch). switch_spot (place, s.0)) (cond t ((i, s) ∷ []) [])
spots_step test place ss i s t at e =
    let all = enumerate_from 0 ss in
    let zero_plus : 0 + i ≡ i = omega arith in
    let got = enumerate_got ss 0 i s at ∙ ap (λ (z : ℕ). Some (z, s)) zero_plus in
    let more : i + 1 ≡ suc i = omega arith in
    ap (λ z. map (λ (s : ℕ × Switch). switch_spot (place, s.0)) (filter (λ (s : ℕ × Switch). test s.1) z)) (ap (λ z. take z all) more ∙ take_got all i (i, s) got)
    ∙ ap (map (λ (s : ℕ × Switch). switch_spot (place, s.0))) (filter_last (λ (s : ℕ × Switch). test s.1) (take i all) (i, s) ∙ ap (λ z. filter (λ (s : ℕ × Switch). test s.1) (take i all) ++ cond z ((i, s) ∷ []) []) e)
    ∙ map_last (λ (s : ℕ × Switch). switch_spot (place, s.0)) (filter (λ (s : ℕ × Switch). test s.1) (take i all)) (cond t ((i, s) ∷ []) [])

pub spots_more : (test : Switch → Bool) (place : ℕ) (ss : List Switch) (i : ℕ) (s : Switch) (start old new : List SwitchAt) → slice_get ss i ≡ Some s → test s ≡ true
    → old ≡ start ++ spots_before test place ss i → new ≡ old ++ switch_spot (place, i) ∷ [] → new ≡ start ++ spots_before test place ss (i + 1)
spots_more test place ss i s start old new at e was is =
    is ∙ ap (λ z. z ++ switch_spot (place, i) ∷ []) was ∙ append_assoc start (spots_before test place ss i) (switch_spot (place, i) ∷ []) ∙ ap (λ z. start ++ z) (sym (spots_step test place ss i s true at e))

pub spots_skipped : (test : Switch → Bool) (place : ℕ) (ss : List Switch) (i : ℕ) (s : Switch) (start old : List SwitchAt) → slice_get ss i ≡ Some s → test s ≡ false
    → old ≡ start ++ spots_before test place ss i → old ≡ start ++ spots_before test place ss (i + 1)
spots_skipped test place ss i s start old at e was = was ∙ ap (λ z. start ++ z) (sym (spots_step test place ss i s false at e ∙ append-nil (spots_before test place ss i)))

pub spots_all : (test : Switch → Bool) (place : ℕ) (ss : List Switch) (i : ℕ) (start now : List SwitchAt) → length ss ≤ i → now ≡ start ++ spots_before test place ss i → now ≡ start ++ spots_that test place ss
unfolding spots_that
spots_all test place ss i start now most is =
    is ∙ ap (λ z. start ++ map (λ (s : ℕ × Switch). switch_spot (place, s.0)) (filter (λ (s : ℕ × Switch). test s.1) z)) (take_all i (enumerate_from 0 ss) (let long = length-enumerate_from 0 ss in omega (arith, most, long)))

-- a switch in its position
pub positioned_at_place : (ss : List Switch) (opened : List Bool) (i : ℕ) (s : Switch) (flag : Bool) → slice_get ss i ≡ Some s → slice_get opened i ≡ Some flag → slice_get (with_opened ss opened) i ≡ Some (with_flag_of (s, flag))
unfolding with_opened
positioned_at_place [] opened i s flag at is = cc
positioned_at_place (x ∷ ss) [] i s flag at is = cc
positioned_at_place (x ∷ ss) (o ∷ opened) zero s flag at is = let same : x ≡ s = cc in let here : o ≡ flag = cc in rw (same, here) refl
positioned_at_place (x ∷ ss) (o ∷ opened) (suc i) s flag at is = positioned_at_place ss opened i s flag at is

pub positioned_long : (ss : List Switch) (opened : List Bool) → length (with_opened ss opened) ≡ length ss
unfolding with_opened
positioned_long [] opened = refl
positioned_long (x ∷ ss) [] = refl
positioned_long (x ∷ ss) (o ∷ opened) = ap suc (positioned_long ss opened)

pub cannot : (stuck hit : List (List ℕ)) (inside : ℕ → Bool) (s : Switch) → can_trip stuck hit s ≡ false → trips stuck hit inside s ≡ false
unfolding trips
cannot stuck hit inside s e = rw e refl

pub can : (stuck hit : List (List ℕ)) (inside : ℕ → Bool) (s : Switch) (t : Bool) → can_trip stuck hit s ≡ true → (inside s.node1 || inside s.node2) ≡ t → trips stuck hit inside s ≡ t
unfolding trips
can stuck hit inside s t e f = rw e f

-- a switch of a level in its position
pub stands_in : (l : VoltageLevel) (row opened : List Bool) (i : ℕ) (s : Switch) → opened ≡ row → length row ≡ length l.switches → slice_get l.switches i ≡ Some s
    → slice_get (positioned l row).switches i ≡ Some (with_flag_of (s, get_or opened i false))
unfolding positioned
stands_in l row opened i s same long at =
    let lt = got_below l.switches i s at in
    positioned_at_place l.switches row i s (get_or opened i false) at (ap (λ z. slice_get z i) (sym same) ∙ got_or opened i false (let short = ap length same in omega (arith, lt, long, short)))

pub long_in : (l : VoltageLevel) (row : List Bool) → length (positioned l row).switches ≡ length l.switches
unfolding positioned
long_in l row = positioned_long l.switches row

pub level_trips_all : (g : Ground) (hit : List (List ℕ)) (place : ℕ) (t : Touched) (i : ℕ) (start now : List SwitchAt) → length t.level.now.switches ≤ i
    → now ≡ start ++ spots_before (trips g.stuck hit (hits_in t)) place (positioned t.level.now (row_at g.opened place)).switches i → now ≡ start ++ level_trips g hit place t
unfolding level_trips
level_trips_all g hit place t i start now most is =
    let long = long_in t.level.now (row_at g.opened place) in
    spots_all (trips g.stuck hit (hits_in t)) place (positioned t.level.now (row_at g.opened place)).switches i start now (omega (arith, most, long)) is

-- ---- level by level

pub filter_none : {X : Type 0} (p : X → Bool) (xs : List X) → ((x : X) → p x ≡ false) → filter p xs ≡ []
filter_none p [] h = refl
filter_none p (x ∷ xs) h = rw (h x) (filter_none p xs h)

-- those of a level that was hit, by its place
abbrev pub trips_of : Ground → List (List ℕ) → ℕ × Box Touched Global → List SwitchAt
trips_of g hit at = level_trips g hit at.0 at.1.value

no_trips : (g : Ground) (hit : List (List ℕ)) (touched : Touches) (k : ℕ) (l : VoltageLevel) → touched_at touched k ≡ None → trips_at g hit touched (k, l) ≡ []
unfolding hits trips_at spots_that trips
no_trips g hit touched k l at =
    let ss = (positioned l (row_at g.opened k)).switches in
    ap (λ (z : Option (Box Touched Global)). spots_that (trips g.stuck hit (hits_by z)) k ss) at
    ∙ ap (map (λ (s : ℕ × Switch). switch_spot (k, s.0))) (filter_none (λ (s : ℕ × Switch). can_trip g.stuck hit s.1 && (hits_by None s.1.node1 || hits_by None s.1.node2)) (enumerate_from 0 ss) (λ s. false_right (can_trip g.stuck hit s.1)))
  where
    false_right : (t : Bool) → (t && false) ≡ false
    false_right true = refl
    false_right false = refl

own_trips : (g : Ground) (hit : List (List ℕ)) (touched : Touches) (k : ℕ) (here : Box Touched Global) (l : VoltageLevel) → AreTouched g touched → touched_at touched k ≡ Some here → slice_get (levels g.net) k ≡ Some l → trips_at g hit touched (k, l) ≡ level_trips g hit k here.value
unfolding hits level_trips trips_at
own_trips g hit touched k here l each at got =
    let h = subst (IsTouchedBy g k) at (each.each k) in
    let there = h.at in
    let same : l ≡ here.value.level.now = cc in
    ap (λ (z : Option (Box Touched Global)). spots_that (trips g.stuck hit (hits_by z)) k (positioned l (row_at g.opened k)).switches) at
    ∙ ap (λ (z : VoltageLevel). spots_that (trips g.stuck hit (hits_in here.value)) k (positioned z (row_at g.opened k)).switches) same

-- those of all levels are those of the levels that were hit
pub trips_present : (g : Ground) (hit : List (List ℕ)) (touched : Touches) → AreTouched g touched → network_trips g hit touched ≡ flat_map (trips_of g hit) (present touched)
unfolding network_trips
trips_present g hit touched each = flat_map_present (trips_at g hit touched) (trips_of g hit) touched (levels g.net) each.long (λ k l none got. no_trips g hit touched k l none) (λ k here l some got. own_trips g hit touched k here l each some got)

-- ---- by the zone

site_same : (a : Site) → same_site a a ≡ true
site_same a = and_from (a.level == a.level) (a.node == a.node) (eq-eqb a.level a.level refl) (eq-eqb a.node a.node refl)

same_is_site : (a b : Site) → same_site a b ≡ true → a ≡ b
same_is_site a b h =
    let both = and_parts (a.level == b.level) (a.node == b.node) h in
    let level = eqb-true a.level b.level both.0 in
    let node = eqb-true a.node b.node both.1 in
    ap (λ z. site_at z a.node) level ∙ ap (site_at b.level) node

-- a node is in the zone of those sites of which the test holds where it holds
pub zone_has : (net : Network) (test : Site → Bool) (k n : ℕ) → IsNode net (site_at k n) → in_zone (filter test (network_sites net)) k n ≡ test (site_at k n)
unfolding in_zone
zone_has net test k n node = same_test (in_zone zone k n) (test (site_at k n)) inside outside
  where
    zone : List Site
    zone = filter test (network_sites net)

    inside : list_any (same_site (site_at k n)) zone ≡ true → test (site_at k n) ≡ true
    inside h =
        let f = any_found (same_site (site_at k n)) zone h in
        ap test (same_is_site (site_at k n) f.0 f.2) ∙ (filter_among test f.0 (network_sites net) f.1).1

    outside : test (site_at k n) ≡ true → list_any (same_site (site_at k n)) zone ≡ true
    outside h = any_among (same_site (site_at k n)) (site_at k n) zone (among_filter test (site_at k n) (network_sites net) (node_among net (site_at k n) node) h) (site_same (site_at k n))

-- a node is in the zone where the walk has hit it
pub zone_hits : (net : Network) (touched : Touches) (k n : ℕ) → IsNode net (site_at k n) → in_zone (filter (hits touched) (network_sites net)) k n ≡ hits touched (site_at k n)
zone_hits net touched k n node = zone_has net (hits touched) k n node

spots_alike : (test other : Switch → Bool) (place : ℕ) (ss : List Switch) → ((i : ℕ) (s : Switch) → slice_get ss i ≡ Some s → test s ≡ other s) → spots_that test place ss ≡ spots_that other place ss
unfolding spots_that
spots_alike test other place ss each =
    ap (map (λ (s : ℕ × Switch). switch_spot (place, s.0))) (filter_agrees (λ (s : ℕ × Switch). test s.1) (λ (s : ℕ × Switch). other s.1) (enumerate_from 0 ss) (λ at i. let got = enumerate_among ss 0 at i in each got.0 at.1 got.2))

-- the record of a switch in its position
opened_back : (ss : List Switch) (row : List Bool) (i : ℕ) (s : Switch) → slice_get (with_opened ss row) i ≡ Some s → (x : Switch) × (slice_get ss i ≡ Some x) × (x.node1 ≡ s.node1) × (x.node2 ≡ s.node2)
unfolding with_opened
opened_back [] row i s e = cc
opened_back (x ∷ ss) [] i s e = (s, e, refl, refl)
opened_back (x ∷ ss) (o ∷ row) zero s e =
    let same : (record x { opened = o }) ≡ s = cc in
    (x, refl, ap (λ (z : Switch). z.node1) same, ap (λ (z : Switch). z.node2) same)
opened_back (x ∷ ss) (o ∷ row) (suc i) s e = opened_back ss row i s e

pub flat_alike : {X Y : Type 0} (f h : ℕ × X → List Y) (m : X → X) (low : ℕ) (xs : List X) → ((k : ℕ) (x : X) → slice_get xs k ≡ Some x → f (low + k, x) ≡ h (low + k, m x)) → flat_map f (enumerate_from low xs) ≡ flat_map h (enumerate_from low (map m xs))
flat_alike f h m low [] each = refl
flat_alike {X} f h m low (x ∷ xs) each =
    let zero_more : low + 0 ≡ low = omega arith in
    let here : f (low, x) ≡ h (low, m x) = ap (λ (z : ℕ). f (z, x)) (sym zero_more) ∙ each 0 x refl ∙ ap (λ (z : ℕ). h (z, m x)) zero_more in
    let rest = flat_alike f h m (low + 1) xs (λ k y at. let moved : (low + 1) + k ≡ low + suc k = omega arith in ap (λ (z : ℕ). f (z, y)) moved ∙ each (suc k) y at ∙ ap (λ (z : ℕ). h (z, m y)) (sym moved)) in
    ap (λ z. z ++ flat_map f (enumerate_from (low + 1) xs)) here ∙ ap (λ z. h (low, m x) ++ z) rest

module _ (g : Ground) (b : IsGround g) (fault : FaultCase) (hit : List (List ℕ)) (touched : Touches)
    (stuck_are : (q : List ℕ) → has_id g.stuck q ≡ has_id fault.stuck q) (hit_are : (q : List ℕ) → has_id hit q ≡ has_id fault.fault q) where
  trip_alike : (k : ℕ) (l : VoltageLevel) (i : ℕ) (s : Switch) → slice_get (levels g.net) k ≡ Some l → slice_get (with_opened l.switches (row_at g.opened k)) i ≡ Some s
      → trips g.stuck hit (λ node. hits touched (site_at k node)) s ≡ trips fault.stuck fault.fault (in_zone (filter (hits touched) (network_sites g.net)) k) s
  unfolding trips can_trip
  trip_alike k l i s at is =
      let x = opened_back l.switches (row_at g.opened k) i s is in
      let place : SwitchAt = record { level = k; place = i } in
      let first = subst (λ (z : ℕ). IsNode g.net (site_at k z)) x.2 (first_is_node g.net place l x.0 b.sound at x.1) in
      let second = subst (λ (z : ℕ). IsNode g.net (site_at k z)) x.3 (second_is_node g.net place l x.0 b.sound at x.1) in
      let one = zone_hits g.net touched k s.node1 first in
      let two = zone_hits g.net touched k s.node2 second in
      rw (stuck_are s.id, hit_are s.id, one, two) refl

  module _ (before : State) (opened_are : before.opened ≡ g.opened) where
    level_alike : (k : ℕ) (l : VoltageLevel) → slice_get (levels g.net) k ≡ Some l → trips_at g hit touched (k, l) ≡ tripped_in before fault (filter (hits touched) (network_sites g.net)) (k, level_without b.removed l)
    unfolding trips_at tripped_in level_without positioned positioned_at
    level_alike k l at =
        let test = trips fault.stuck fault.fault (in_zone (filter (hits touched) (network_sites g.net)) k) in
        spots_alike (trips g.stuck hit (λ node. hits touched (site_at k node))) test k (with_opened l.switches (row_at g.opened k)) (λ i s is. trip_alike k l i s at is)
        ∙ ap (λ z. spots_that test k (with_opened l.switches (row_at z k))) (sym opened_are)

    -- what trips by what the walk has hit is what trips with this zone
    pub trips_are : levels before.structure ≡ g.present → network_trips g hit touched ≡ tripped_from before fault (filter (hits touched) (network_sites g.net))
    unfolding network_trips tripped_from
    trips_are levels_are =
        let zone = filter (hits touched) (network_sites g.net) in
        flat_alike (trips_at g hit touched) (tripped_in before fault zone) (level_without b.removed) 0 (levels g.net)
        (λ k l at. let none : 0 + k ≡ k = omega arith in
        ap (λ (z : ℕ). trips_at g hit touched (z, l)) none ∙ level_alike k l at ∙ ap (λ (z : ℕ). tripped_in before fault zone (z, level_without b.removed l)) (sym none))
        ∙ ap (λ z. flat_map (tripped_in before fault zone) (enumerate_from 0 z)) (sym (levels_are ∙ b.left))

-- what trips by what a walk from the sites that are hit leads to is what trips
pub tripped_found : (case : Case) (fault : FaultCase) (g : Ground) → IsGround g → IsScene case fault g → (hit : List (List ℕ)) (touched : Touches) → Knows hit fault.fault
    → IsSettled g (flat_map (sites_of g.net) fault.fault) touched → AreTripped case fault (network_trips g hit touched)
unfolding tripped_of
tripped_found case fault g own is hit touched hit_are settled retained =
    let p = past case fault g own is retained in
    let zone = filter (hits touched) (network_sites g.net) in
    trips_are g p.0 fault hit touched is.stuck_are hit_are (before_fault (state_in case retained) fault) (sym (is.opened_are retained)) (sym (is.levels_are retained))
    ∙ ap (tripped_from (before_fault (state_in case retained) fault) fault) (zone_found case fault g own is touched zone settled refl retained)
