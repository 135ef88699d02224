-- What trips at a fault of an injection, with just one node in the zone, is what the plan opens that disconnects it.
use Rattle.std.proofs.Common.{◌≡◌, refl, sym, ap, ap₂, ◌∙◌, subst, ℕ, zero, suc, ◌+◌, Bool, true, false, cond, not, ◌&&◌, ◌||◌, List, [], ◌∷◌, ◌++◌, map, length, append-nil, arith, inl, inr, Option, Some, None}
use Rattle.std.specs.Prelude.{◌==◌, eqb, filter, flat_map, slice_get, option_and_then}
use Rattle.std.specs.List.{enumerate_from, list_any}
use Rattle.std.proofs.lemmas.List.Elements.{filter-append}
use Rattle.std.proofs.lemmas.Bool.{and_parts, and_from, false≢true, eqb-true, eq-eqb, ne_eqb}
use Rattle.grid_lemmas.proofs.Bools.{same_test}
use Rattle.grid_lemmas.proofs.Lists.{all_at, map_twice, some_got}
use Rattle.grid_graph.specs.Joined.{joined}
use Rattle.grid_graph.proofs.Reach.{In, joined_refl}
use Rattle.grid_graph.proofs.Least.{In_filter, filter_In}
use Rattle.grid_ids.specs.Name.{same_id, has_id}
use Rattle.grid_ids.proofs.Alike.{same_is, same_itself}
use Rattle.grid_level.specs.declared.Placed.{Placed}
use Rattle.grid_level.specs.declared.Switch.{Switch}
use Rattle.grid_level.specs.VoltageLevel.{VoltageLevel}
use Rattle.grid_level.specs.Kept.{KeepsLimits, among}
use Rattle.grid_level.specs.Passing.{core, switch_edge, internal_edge, ends, is_branch_end, is_operable, nodes, placed_among, switch_passes, passes_closed, passing, positioned, with_opened, joined_under, is_connected}
use Rattle.grid_level.specs.Sound.{level_passes}
use Rattle.grid_groups.proofs.Indices.{among_In}
use Rattle.grid_groups.proofs.PassingEdges.{nodes-positioned}
use Rattle.grid_paths.specs.Paths.{has_node}
use Rattle.grid_connect.specs.declared.DisconnectPlan.{DisconnectPlan}
use Rattle.grid_connect.specs.declared.DisconnectPlan.TheVariants.{Opens, AlreadyDisconnected}
use Rattle.grid_connect.specs.Plans.{core_of, core_busbar, leaves_core, leaving, opens_or, disconnect_plan_of}
use Rattle.grid_connect.proofs.ClearPaths.{level_holds}
use Rattle.grid_states.specs.Rows.{row_at}
use Rattle.grid_structure.specs.declared.NamedBranch.{NamedBranch}
use Rattle.grid_structure.specs.declared.Site.{Site}
use Rattle.grid_structure.specs.declared.SwitchAt.{SwitchAt}
use Rattle.grid_structure.specs.Network.{Network}
use Rattle.grid_structure.specs.Sites.{levels, branches, find_switch, switch_spot}
use Rattle.grid_structure.specs.Soundness.{IsSound}
use Rattle.grid_core.specs.declared.case.Case.{Case}
use Rattle.grid_core.specs.Fitting.{RowsFit}
use Rattle.grid_core.specs.Solo.{State, state_rows, powers_of, positioned_at}
use Rattle.grid_core.proofs.VariantViews.{flags_fit}
use Rattle.grid_contingencies.specs.declared.FaultCase.{FaultCase}
use Rattle.grid_screen.specs.Faults.{same_site, before_fault, zone_from, zone_of, in_zone, can_trip, trips, spots_that, tripped_in, tripped_from, tripped_of}
use Rattle.grid_screen.specs.Findings.{state_in}
use Rattle.grid_screen.specs.Grounds.{IsGround, with_flag_of}
use Rattle.grid_screen.specs.Outages.{state_without}
use Rattle.grid_screen.specs.Walks.{IsNode, HasSites}
use Rattle.grid_screen.specs.Zones.{site_at, sites_at, network_sites, sites_of, sites_by, sites_of_equipment, passes_fault, passing_fault, level_ties, branch_ties, fault_ties, is_hit, zone_over}
use Rattle.grid_screened.specs.Disconnecting.{fault_of, just_one, one_node_in, has_one_node, has_end}
use Rattle.grid_screened.specs.Laws.{AsDisconnect}
use Rattle.grid_screen.proofs.PairClosures.{within_alike, next_first, next_second, joined_next}
use Rattle.grid_screen.proofs.BranchEnds.{is_end}
use Rattle.grid_screen.proofs.WalkSteps.{got_below}
use Rattle.grid_screen.proofs.Leasts.{ground_of, grounded, zone_is_least}
use Rattle.grid_outages.proofs.Members.{Among, among_got, got_among, among_parts, map_among, among_filter, any_among, any_found, filter_agrees, flat_among, enumerate_among}
use Rattle.grid_screen.proofs.SwitchPlaces.{placed_no_switch, switch_own}
use Rattle.grid_screen.proofs.FaultEdges.{keeps_of}
use Rattle.grid_screen.proofs.Sitings.{standing_at, first_is_node, second_is_node}
use Rattle.grid_screen.proofs.Stands.{sited, any_there}
use Rattle.grid_screen.proofs.BreakerTrips.{filter_none, positioned_at_place, positioned_long, zone_has}
use Rattle.grid_screen.proofs.FaultZones.{IsPast, side_of_site, site_of_one, starts_are_nodes, two_among, zone_across, zone_begun}
use Rattle.grid_screened.proofs.Alone.{one_place, one_node}

-- ---- lists

filter_mapped : {X Y : Type 0} (p : Y → Bool) (q : X → Bool) (f : X → Y) (xs : List X) → filter p (map f (filter q xs)) ≡ map f (filter (λ x. q x && p (f x)) xs)
filter_mapped p q f [] = refl
filter_mapped {X} {Y} p q f (x ∷ xs) = by (q x) (p (f x)) refl (filter_mapped p q f xs)
  where
    both : X → Bool
    both y = q y && p (f y)

    by : (s t : Bool) → p (f x) ≡ t → filter p (map f (filter q xs)) ≡ map f (filter both xs)
        → filter p (map f (cond s (x ∷ filter q xs) (filter q xs))) ≡ map f (cond (s && t) (x ∷ filter both xs) (filter both xs))
    by true true e again = rw e (ap (λ z. f x ∷ z) again)
    by true false e again = rw e again
    by false t e again = again

filter_flat : {X Y : Type 0} (p : Y → Bool) (f : X → List Y) (xs : List X) → filter p (flat_map f xs) ≡ flat_map (λ x. filter p (f x)) xs
filter_flat p f [] = refl
filter_flat p f (x ∷ xs) = filter-append p (f x) (flat_map f xs) ∙ ap (λ z. filter p (f x) ++ z) (filter_flat p f xs)

no_blocks : {X Y : Type 0} (f : ℕ × X → List Y) (low : ℕ) (xs : List X) → ((j : ℕ) (x : X) → slice_get xs j ≡ Some x → f (low + j, x) ≡ []) → flat_map f (enumerate_from low xs) ≡ []
no_blocks f low [] h = refl
no_blocks f low (x ∷ xs) h =
    let here : low + 0 ≡ low = omega arith in
    let first : f (low, x) ≡ [] = subst (λ (z : ℕ). f (z, x) ≡ []) here (h 0 x refl) in
    ap (λ z. z ++ flat_map f (enumerate_from (low + 1) xs)) first
    ∙ no_blocks f (low + 1) xs (λ j y at. let moved : low + suc j ≡ (low + 1) + j = omega arith in subst (λ (z : ℕ). f (z, y) ≡ []) moved (h (suc j) y at))

-- the block of one place is all, where the others are empty
one_block : {X Y : Type 0} (f : ℕ × X → List Y) (whole : List Y) (low k : ℕ) (xs : List X) (x : X) → slice_get xs k ≡ Some x → f (low + k, x) ≡ whole
    → ((j : ℕ) (y : X) → slice_get xs j ≡ Some y → (j ≡ k → ⊥) → f (low + j, y) ≡ []) → flat_map f (enumerate_from low xs) ≡ whole
one_block f whole low k [] x at own others = cc
one_block f whole low zero (y ∷ ys) x at own others =
    let here : low + 0 ≡ low = omega arith in
    let same : y ≡ x = cc in
    let first : f (low, y) ≡ whole = rw same (subst (λ (z : ℕ). f (z, x) ≡ whole) here own) in
    let rest = no_blocks f (low + 1) ys (λ j z i. let moved : low + suc j ≡ (low + 1) + j = omega arith in subst (λ (n : ℕ). f (n, z) ≡ []) moved (others (suc j) z i (λ e. omega (arith, e)))) in
    ap₂ (λ u v. u ++ v) first rest ∙ append-nil whole
one_block f whole low (suc k) (y ∷ ys) x at own others =
    let here : low + 0 ≡ low = omega arith in
    let moved : low + suc k ≡ (low + 1) + k = omega arith in
    let first : f (low, y) ≡ [] = subst (λ (z : ℕ). f (z, y) ≡ []) here (others 0 y refl (λ e. omega (arith, e))) in
    ap (λ z. z ++ flat_map f (enumerate_from (low + 1) ys)) first
    ∙ one_block f whole (low + 1) k ys x at (subst (λ (n : ℕ). f (n, x) ≡ whole) moved own)
    (λ j z i ne. let along : low + suc j ≡ (low + 1) + j = omega arith in subst (λ (n : ℕ). f (n, z) ≡ []) along (others (suc j) z i (λ e. ne (omega (arith, e)))))

-- a switch in its position is one of the level with some flag
stands_there : (ss : List Switch) (row : List Bool) (i : ℕ) (s : Switch) → length row ≡ length ss → slice_get (with_opened ss row) i ≡ Some s → (x : Switch) × (flag : Bool) × (slice_get ss i ≡ Some x) × (s ≡ with_flag_of (x, flag))
stands_there ss row i s long got =
    let below = got_below (with_opened ss row) i s got in
    let same = positioned_long ss row in
    let x = some_got ss i (omega (arith, below, same)) in
    let flag = some_got row i (omega (arith, below, same, long)) in
    let both : ◌≡◌ (Some s) (Some (with_flag_of (x.0, flag.0))) = sym got ∙ positioned_at_place ss row i x.0 flag.0 x.1 flag.1 in
    (x.0, flag.0, x.1, cc)

-- a plan that opens breakers opens what leaves the core
plan_opens : (level : VoltageLevel) (node : ℕ) (places : List ℕ) → disconnect_plan_of level node ≡ Opens places → leaving level (core_of level node) ≡ places
unfolding disconnect_plan_of opens_or
plan_opens level node places e = by (is_connected level node) (core_busbar level (core_of level node)) e
  where
    by : (t : Bool) (o : Option Placed) → ◌≡◌ {A = DisconnectPlan} (cond t (opens_or (leaving level (core_of level node)) o) AlreadyDisconnected) (Opens places) → leaving level (core_of level node) ≡ places
    by true None h = cc
    by true (Some q) h = cc
    by false o h = cc

-- ---- the zone

module _ (state : State) (k i : ℕ) (level : VoltageLevel) (p : Placed) (sound : IsSound state.structure) (fits : RowsFit state.structure state.opened)
    (at : slice_get (levels state.structure) k ≡ Some level) (stands : slice_get level.placed i ≡ Some p) (alone : is_branch_end p.stand ≡ false)
    (inner : has_end (positioned_at state k level) p.node ≡ false) where
  abbrev net : Network
  net = state.structure

  abbrev id : List ℕ
  id = p.terminal.equipment

  abbrev event : FaultCase
  event = fault_of p.terminal.equipment

  abbrev case : Case
  case = record { structure = state.structure; states = state_rows state; powers = powers_of state }

  abbrev now : VoltageLevel
  now = positioned level (row_at state.opened k)

  abbrev starts : List Site
  starts = flat_map (sites_of state.structure) (p.terminal.equipment ∷ [])

  abbrev before : State
  before = before_fault (state_in case state.retained) event

  abbrev hit : Site → Bool
  hit = is_hit (network_sites state.structure) (fault_ties before.structure before.opened []) starts

  abbrev zone : List Site
  zone = zone_of (state_in case state.retained) event

  abbrev in_core : ℕ → Bool
  in_core n = list_any (eqb n) (filter (joined_under core now p.node) (nodes now))

  abbrev inside : Site → Bool
  inside s = (s.level == k) && in_core s.node

  own_level : (j : ℕ) (m : VoltageLevel) → slice_get (levels state.structure) j ≡ Some m → j ≡ k → m ≡ level
  own_level j m there e = let both : ◌≡◌ (Some m) (Some level) = sym there ∙ ap (slice_get (levels net)) e ∙ at in cc

  among_placed : Among p level.placed
  among_placed = among_got level.placed i p stands

  no_switch : find_switch state.structure p.terminal.equipment ≡ None
  no_switch = placed_no_switch net k level p sound at among_placed

  keeps : (j : ℕ) (m : VoltageLevel) → slice_get (levels state.structure) j ≡ Some m → KeepsLimits m
  keeps j m there = keeps_of m (all_at level_passes (levels net) j m sound.each_level there)

  node_here : In p.node (nodes now)
  node_here = subst (In p.node) (sym (nodes-positioned level (row_at state.opened k))) (among_In p.node (nodes level) (all_at (λ (q : Placed). among (nodes level) q.node) level.placed i p (keeps k level at).placed_are_nodes stands))

  -- ---- the core

  core_has : (n : ℕ) → in_core n ≡ true → In n (nodes now) × (joined (nodes now) (passing core now) p.node n ≡ true)
  unfolding joined_under
  core_has n h = filter_In (joined (nodes now) (passing core now) p.node) n (nodes now) h

  has_core : (n : ℕ) → In n (nodes now) → joined (nodes now) (passing core now) p.node n ≡ true → in_core n ≡ true
  unfolding joined_under
  has_core n j h = In_filter (joined (nodes now) (passing core now) p.node) n (nodes now) j h

  core_across : (pair : ℕ × ℕ) → Among pair (passing core now) → in_core pair.0 ≡ in_core pair.1
  core_across pair j =
      let holds = level_holds core now in
      let ahead = next_first pair (passing core now) j in
      let back = next_second pair (passing core now) j in
      let first = holds.across pair.1 pair.0 back in
      let second = holds.across pair.0 pair.1 ahead in
      same_test (in_core pair.0) (in_core pair.1)
      (λ h. let c = core_has pair.0 h in has_core pair.1 second (joined_next (nodes now) (passing core now) holds p.node pair.0 pair.1 node_here c.1 c.0 ahead))
      (λ h. let c = core_has pair.1 h in has_core pair.0 first (joined_next (nodes now) (passing core now) holds p.node pair.1 pair.0 node_here c.1 c.0 back))

  -- no branch end stands there
  no_end_inside : (j : ℕ) (q : Placed) → slice_get level.placed j ≡ Some q → is_branch_end q.stand ≡ true → in_core q.node ≡ true → ⊥
  unfolding has_end core_of placed_among positioned positioned_at
  no_end_inside j q there ends h =
      let kept = among_filter (λ (r : Placed). in_core r.node) q level.placed (among_got level.placed j q there) h in
      false≢true (sym inner ∙ any_among (λ (r : Placed). is_branch_end r.stand) q (filter (λ (r : Placed). in_core r.node) level.placed) kept ends)

  -- ---- the starts

  start_is : (s : Site) → Among s starts → (k ≡ s.level) × (p.node ≡ s.node)
  unfolding sites_of
  start_is s j =
      let own = subst (Among s) (append-nil (sites_by net id (find_switch net id))) j in
      let side = side_of_site net id s (subst (λ (o : Option (ℕ × ℕ)). Among s (sites_by net id o)) no_switch own) in
      let st = standing_at net id side.0 s.level s.node side.1 in
      let item = among_got st.level.placed st.index st.item st.stands in
      (one_place net k s.level level st.level p st.item sound at st.at among_placed item st.own alone, one_node net k s.level level st.level p st.item sound at st.at among_placed item st.own alone ∙ st.node)

  start_there : Among (site_at k p.node) starts
  unfolding sites_of
  start_there =
      let named = any_there (λ (q : Placed). same_id id q.terminal.equipment) level.placed i p stands (same_itself id) in
      let one = sited net id k level sound at named in
      let st = standing_at net id one.side k one.node one.is in
      let item = among_got st.level.placed st.index st.item st.stands in
      let node = one_node net k k level st.level p st.item sound at st.at among_placed item st.own alone ∙ st.node in
      let here = site_of_one net id one.side k one.node one.least one.most one.is in
      let there = subst (λ (n : ℕ). Among (site_at k n) (sites_of_equipment net id)) (sym node) here in
      subst (Among (site_at k p.node)) (sym (append-nil (sites_by net id (find_switch net id)))) (subst (λ (o : Option (ℕ × ℕ)). Among (site_at k p.node) (sites_by net id o)) (sym no_switch) there)

  inside_start : HasSites inside starts
  inside_start j s got =
      let is = start_is s (among_got starts j s got) in
      and_from (s.level == k) (in_core s.node) (eq-eqb s.level k (sym is.0)) (ap in_core (sym is.1) ∙ has_core p.node node_here (joined_refl (nodes now) (passing core now) p.node))

  -- ---- what is joined to it

  pass_same : (m : VoltageLevel) → passing_fault [] m ≡ passing core m
  unfolding passing_fault passes_fault passing switch_passes passes_closed has_id
  pass_same m =
      ap (λ z. map (λ (s : Switch). ends (switch_edge s)) z ++ map (λ n. ends (internal_edge n)) m.internals)
      (filter_agrees (λ (s : Switch). not s.opened && (not (is_operable s) || false)) (λ (s : Switch). not s.opened && not (is_operable s)) m.switches (λ s j. ap (λ z. not s.opened && z) (or_none (not (is_operable s)))))
    where
      or_none : (t : Bool) → t || false ≡ t
      or_none true = refl
      or_none false = refl

  abbrev Tied : Site × Site → Type 0
  Tied tie = inside tie.0 ≡ inside tie.1

  edge_tied : (here : ℕ × VoltageLevel) (tie : Site × Site) → Among here (enumerate_from 0 (levels state.structure)) → Among tie (level_ties [] state.opened here) → Tied tie
  unfolding level_ties
  edge_tied here tie j h =
      let pair = map_among (sites_at here.0) tie (passing_fault [] (positioned here.1 (row_at state.opened here.0))) h in
      let place = enumerate_among (levels net) 0 here j in
      let number : here.0 ≡ place.0 = omega (arith, place.1) in
      let there = ap (slice_get (levels net)) number ∙ place.2 in
      ap (λ (z : Site × Site). inside z.0) pair.2 ∙ by (here.0 == k) refl pair.0 pair.1 there ∙ sym (ap (λ (z : Site × Site). inside z.1) pair.2)
    where
      by : (t : Bool) → (here.0 == k) ≡ t → (pair : ℕ × ℕ) → Among pair (passing_fault [] (positioned here.1 (row_at state.opened here.0))) → slice_get (levels state.structure) here.0 ≡ Some here.1
          → (here.0 == k) && in_core pair.0 ≡ (here.0 == k) && in_core pair.1
      by false e pair h there = rw e refl
      by true e pair h there =
          let same = eqb-true here.0 k e in
          let l = own_level here.0 here.1 there same in
          let moved = subst (λ (z : ℕ). Among pair (passing_fault [] (positioned here.1 (row_at state.opened z)))) same h in
          let own = subst (λ (z : VoltageLevel). Among pair (passing_fault [] (positioned z (row_at state.opened k)))) l moved in
          ap (λ z. (here.0 == k) && z) (core_across pair (subst (Among pair) (pass_same now) own))

  -- no end of a branch is inside
  end_outside : (b : NamedBranch) (s : Site) → Among b (branches state.structure) → Among s (sites_of_equipment state.structure b.id) → inside s ≡ false
  end_outside b s j h = by (inside s) refl
    where
      by : (t : Bool) → inside s ≡ t → t ≡ false
      by false e = refl
      by true e =
          let side = side_of_site net b.id s h in
          let st = standing_at net b.id side.0 s.level s.node side.1 in
          let both = and_parts (s.level == k) (in_core s.node) e in
          let l = own_level s.level st.level st.at (eqb-true s.level k both.0) in
          let ends = is_end net s.level st.index st.level st.item b sound st.at st.stands j st.own in
          let there = subst (λ (z : VoltageLevel). slice_get z.placed st.index ≡ Some st.item) l st.stands in
          absurd (no_end_inside st.index st.item there ends (ap in_core st.node ∙ both.1))

  ties_inside : (n : ℕ) (tie : Site × Site) → slice_get (fault_ties before.structure before.opened event.stuck) n ≡ Some tie → inside tie.0 ≡ inside tie.1
  unfolding before_fault state_without fault_ties branch_ties
  ties_inside n tie got =
      elim (among_parts tie (flat_map (level_ties [] state.opened) (enumerate_from 0 (levels net))) (flat_map (branch_ties net) (branches net)) (among_got _ n tie got)) [
        | inl h ↦ (let from = flat_among (level_ties [] state.opened) tie (enumerate_from 0 (levels net)) h in edge_tied from.0 tie from.1 from.2)
        | inr h ↦ (let from = flat_among (branch_ties net) tie (branches net) h in
            let two = two_among (sites_of_equipment net from.0.id) tie from.2 in
            end_outside from.0 tie.0 from.1 two.0 ∙ sym (end_outside from.0 tie.1 from.1 two.1))
      ]

  zone_inside : HasSites inside zone
  zone_inside = zone_is_least case event state.retained inside sound fits ties_inside inside_start

  past : (b : IsGround (ground_of case event state.retained [])) × IsPast (ground_of case event state.retained []) b before.structure []
  past = grounded case event state.retained [] sound fits

  begun : (s : Site) → Among s starts → IsNode state.structure s
  begun = starts_are_nodes net (id ∷ []) sound

  hit_across : (pair : ℕ × ℕ) → Among pair (passing core now) → hit (site_at k pair.0) ≡ hit (site_at k pair.1)
  unfolding before_fault state_without
  hit_across pair j =
      let got = got_among pair (passing_fault [] now) (subst (Among pair) (sym (pass_same now)) j) in
      zone_across (ground_of case event state.retained []) past.0 before.structure [] past.1 starts begun k got.0 level pair at got.1

  core_hit : (n : ℕ) → in_core n ≡ true → hit (site_at k n) ≡ true
  unfolding joined
  core_hit n h =
      sym (within_alike (λ x. hit (site_at k x)) (passing core now) (length (nodes now)) p.node n hit_across (core_has n h).1)
      ∙ zone_begun (ground_of case event state.retained []) past.0 before.structure [] past.1 starts begun (site_at k p.node) start_there

  in_is_hit : (j n : ℕ) → IsNode state.structure (site_at j n) → in_zone zone j n ≡ hit (site_at j n)
  unfolding zone_of zone_from zone_over before_fault state_without
  in_is_hit j n node = zone_has net hit j n node

  -- the zone is the core
  zone_is : (j n : ℕ) → IsNode state.structure (site_at j n) → in_zone zone j n ≡ (j == k) && in_core n
  unfolding in_zone
  zone_is j n node = same_test (in_zone zone j n) ((j == k) && in_core n)
      (λ h. let f = any_found (same_site (site_at j n)) zone h in
      let same = and_parts (j == f.0.level) (n == f.0.node) f.2 in
      let got = got_among f.0 zone f.1 in
      ap (λ (z : ℕ). (z == k) && in_core n) (eqb-true j f.0.level same.0) ∙ ap (λ (z : ℕ). (f.0.level == k) && in_core z) (eqb-true n f.0.node same.1) ∙ zone_inside got.0 f.0 got.1)
      (λ h. let both = and_parts (j == k) (in_core n) h in
      let place = eqb-true j k both.0 in
      in_is_hit j n node ∙ ap (λ (z : ℕ). hit (site_at z n)) place ∙ core_hit n both.1)

  -- ---- the breakers

  abbrev test : ℕ → Switch → Bool
  test j s = trips [] (p.terminal.equipment ∷ []) (in_zone zone j) s

  abbrev leaves : SwitchAt → Bool
  leaves = has_one_node state.structure zone

  bools : (o q e a b : Bool) → (o && (q && (true && true)) && ((e && a) || (e && b))) && just_one (e && a) (e && b) ≡ e && ((o && q) && just_one a b)
  bools false q false a b = refl
  bools false q true a b = refl
  bools true false false a b = refl
  bools true false true a b = refl
  bools true true false a b = refl
  bools true true true true true = refl
  bools true true true true false = refl
  bools true true true false true = refl
  bools true true true false false = refl

  one_switch : (j n : ℕ) (l : VoltageLevel) (s : Switch) → slice_get (levels state.structure) j ≡ Some l → slice_get (with_opened l.switches (row_at state.opened j)) n ≡ Some s
      → test j s && leaves (switch_spot (j, n)) ≡ (j == k) && leaves_core (core_of now p.node) s
  unfolding trips can_trip has_id has_one_node leaves_core has_node core_of
  one_switch j n l s there got =
      let x = stands_there l.switches (row_at state.opened j) n s (flags_fit net state.opened fits j l there) got in
      let spot : SwitchAt = switch_spot (j, n) in
      let first = zone_is j x.0.node1 (first_is_node net spot l x.0 sound there x.2) in
      let second = zone_is j x.0.node2 (second_is_node net spot l x.0 sound there x.2) in
      let one = ap (λ (z : Switch). in_zone zone j z.node1) x.3 ∙ first ∙ ap (λ (z : Switch). (j == k) && in_core z.node1) (sym x.3) in
      let two = ap (λ (z : Switch). in_zone zone j z.node2) x.3 ∙ second ∙ ap (λ (z : Switch). (j == k) && in_core z.node2) (sym x.3) in
      let here : leaves (switch_spot (j, n)) ≡ just_one (in_zone zone j s.node1) (in_zone zone j s.node2) =
      ap (λ o. one_node_in zone j (option_and_then (λ (l : VoltageLevel). slice_get l.switches n) o)) there ∙ ap (one_node_in zone j) x.2 ∙ ap (λ (z : Switch). just_one (in_zone zone j z.node1) (in_zone zone j z.node2)) (sym x.3) in
      let other : same_id s.id p.terminal.equipment ≡ false = ap (λ (z : Switch). same_id z.id p.terminal.equipment) x.3 ∙ unlike x.0 (switch_own net j n l x.0 sound there x.2) in
      ap (λ z. test j s && z) here ∙ ap (λ z. (not s.opened && (is_operable s && (true && not (z || false))) && (in_zone zone j s.node1 || in_zone zone j s.node2)) && just_one (in_zone zone j s.node1) (in_zone zone j s.node2)) other
      ∙ ap₂ (λ a b. (not s.opened && (is_operable s && (true && true)) && (a || b)) && just_one a b) one two ∙ bools (not s.opened) (is_operable s) (j == k) (in_core s.node1) (in_core s.node2)
    where
      unlike : (x : Switch) → find_switch state.structure x.id ≡ Some (j, n) → same_id x.id p.terminal.equipment ≡ false
      unlike x found = by (same_id x.id p.terminal.equipment) refl
        where
          by : (t : Bool) → same_id x.id p.terminal.equipment ≡ t → t ≡ false
          by false e = refl
          by true e = let none : ◌≡◌ {A = Option (ℕ × ℕ)} (Some (j, n)) None = sym found ∙ ap (find_switch net) (same_is x.id p.terminal.equipment e) ∙ no_switch in cc

  abbrev planned : List SwitchAt
  planned = map (λ n. switch_spot (k, n)) (leaving now (core_of now p.node))

  block : (j : ℕ) (l : VoltageLevel) → slice_get (levels state.structure) j ≡ Some l → filter leaves (tripped_in before event zone (j, l)) ≡ cond (j == k) planned []
  unfolding tripped_in spots_that before_fault state_without positioned_at positioned leaving
  block j l there =
      let xs = enumerate_from 0 (with_opened l.switches (row_at state.opened j)) in
      filter_mapped leaves (λ (x : ℕ × Switch). test j x.1) (λ (x : ℕ × Switch). switch_spot (j, x.0)) xs
      ∙ ap (map (λ (x : ℕ × Switch). switch_spot (j, x.0))) (filter_agrees (λ (x : ℕ × Switch). test j x.1 && leaves (switch_spot (j, x.0))) (λ (x : ℕ × Switch). (j == k) && leaves_core (core_of now p.node) x.1) xs
      (λ x a. let place = enumerate_among (with_opened l.switches (row_at state.opened j)) 0 x a in
      let number : x.0 ≡ place.0 = omega (arith, place.1) in
      one_switch j x.0 l x.1 there (ap (slice_get (with_opened l.switches (row_at state.opened j))) number ∙ place.2)))
      ∙ by (j == k) refl
    where
      by : (t : Bool) → (j == k) ≡ t
          → map (λ (x : ℕ × Switch). switch_spot (j, x.0)) (filter (λ (x : ℕ × Switch). t && leaves_core (core_of now p.node) x.1) (enumerate_from 0 (with_opened l.switches (row_at state.opened j)))) ≡ cond t planned []
      by false e = ap (map (λ (x : ℕ × Switch). switch_spot (j, x.0))) (filter_none (λ (x : ℕ × Switch). false) (enumerate_from 0 (with_opened l.switches (row_at state.opened j))) (λ x. refl))
      by true e =
          let same = eqb-true j k e in
          let is = own_level j l there same in
          ap (λ (z : VoltageLevel). map (λ (x : ℕ × Switch). switch_spot (j, x.0)) (filter (λ (x : ℕ × Switch). leaves_core (core_of now p.node) x.1) (enumerate_from 0 (with_opened z.switches (row_at state.opened j))))) is
          ∙ ap (λ (z : ℕ). map (λ (x : ℕ × Switch). switch_spot (z, x.0)) (filter (λ (x : ℕ × Switch). leaves_core (core_of now p.node) x.1) (enumerate_from 0 (with_opened level.switches (row_at state.opened z))))) same
          ∙ sym (map_twice (λ n. switch_spot (k, n)) (λ (x : ℕ × Switch). x.0) (filter (λ (x : ℕ × Switch). leaves_core (core_of now p.node) x.1) (enumerate_from 0 (with_opened level.switches (row_at state.opened k)))))

  all_blocks : filter leaves (tripped_of (state_in case state.retained) event) ≡ planned
  unfolding tripped_of tripped_from before_fault state_without
  all_blocks =
      let at_zero : (n : ℕ) → n ≡ 0 + n = λ n. omega arith in
      filter_flat leaves (tripped_in before event zone) (enumerate_from 0 (levels net))
      ∙ one_block (λ (here : ℕ × VoltageLevel). filter leaves (tripped_in before event zone here)) planned 0 k (levels net) level at
      (subst (λ (n : ℕ). filter leaves (tripped_in before event zone (n, level)) ≡ planned) (at_zero k) (block k level at ∙ ap (λ t. cond t planned []) (eq-eqb k k refl)))
      (λ j l there ne. subst (λ (n : ℕ). filter leaves (tripped_in before event zone (n, l)) ≡ []) (at_zero j) (block j l there ∙ ap (λ t. cond t planned []) (ne_eqb j k ne)))

pub as_disconnect : AsDisconnect
unfolding positioned_at
as_disconnect state k i level p places sound fits at stands alone plan inner =
    ap (map (λ n. switch_spot (k, n))) (sym (plan_opens (positioned level (row_at state.opened k)) p.node places plan)) ∙ sym (all_blocks state k i level p sound fits at stands alone inner)
