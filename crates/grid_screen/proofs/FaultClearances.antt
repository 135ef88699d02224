-- When a fault is cleared, nothing passes out of its zone, and no terminal stands in it; and which breakers trip.
use Rattle.std.proofs.Common.{◌≡◌, refl, sym, ap, ◌∙◌, subst, ℕ, zero, suc, ◌+◌, Bool, true, false, not, ◌&&◌, ◌||◌, List, [], ◌∷◌, ◌++◌, map, length, get_or, arith, inl, inr, ◌⊎◌, Some}
use Rattle.std.specs.Prelude.{slice_get, filter, flat_map}
use Rattle.std.specs.List.{enumerate_from}
use Rattle.std.proofs.lemmas.Bool.{and_parts, and_from, true≢false, not-true}
use Rattle.std.proofs.lemmas.List.Sums.{fold-append}
use Rattle.grid_lemmas.proofs.Bools.{not_either}
use Rattle.grid_lemmas.proofs.Lists.{map_got}
use Rattle.grid_ids.specs.Name.{has_id}
use Rattle.grid_level.specs.declared.Internal.{Internal}
use Rattle.grid_level.specs.declared.Placed.{Placed}
use Rattle.grid_level.specs.declared.Switch.{Switch}
use Rattle.grid_level.specs.VoltageLevel.{VoltageLevel}
use Rattle.grid_level.specs.Passing.{bus, switch_edge, internal_edge, ends, is_operable, switch_passes, passes_closed, passing, positioned, with_opened}
use Rattle.grid_states.specs.Rows.{row_at}
use Rattle.grid_structure.specs.declared.Site.{Site}
use Rattle.grid_structure.specs.declared.SwitchAt.{SwitchAt}
use Rattle.grid_structure.specs.Network.{Network}
use Rattle.grid_structure.specs.Sites.{levels, find_switch, switch_spot}
use Rattle.grid_structure.specs.Soundness.{IsSound}
use Rattle.grid_core.specs.declared.case.Case.{Case}
use Rattle.grid_core.specs.Solo.{State, positioned_at}
use Rattle.grid_core.proofs.VariantViews.{flags_fit}
use Rattle.grid_core.proofs.Ranges.{rows_of_levels}
use Rattle.grid_contingencies.specs.declared.FaultCase.{FaultCase}
use Rattle.grid_screen.specs.Faults.{before_fault, zone_of, zone_from, in_zone, can_trip, trips, spots_that, tripped_in, tripped_from, tripped_of, switch_ids, equipment_in, zone_equipment, clearing_of}
use Rattle.grid_screen.specs.FaultLaws.{IsClearOf, ZoneIsCleared, OneNodeTrips}
use Rattle.grid_screen.specs.Findings.{CaseFits, state_in}
use Rattle.grid_screen.specs.Grounds.{IsGround, with_flag_of}
use Rattle.grid_screen.specs.Outages.{is_switch, state_without}
use Rattle.grid_outages.specs.Changes.{level_without}
use Rattle.grid_outages.specs.Steps.{taken_out, levels_with_out, rows_with_out, levels_after, rows_after}
use Rattle.grid_screen.specs.Walks.{IsNode}
use Rattle.grid_screen.specs.Zones.{site_at, network_sites, sites_of, sites_by, passes_fault, passing_fault, fault_ties, is_hit, zone_over}
use Rattle.grid_outages.proofs.Again.{levels_again}
use Rattle.grid_outages.proofs.OutageChanges.{equipment_out}
use Rattle.grid_screen.proofs.Clearings.{cleared_is, switch_read}
use Rattle.grid_screen.proofs.WalkSteps.{got_below}
use Rattle.grid_screen.proofs.Leasts.{ground_of, grounded, after_row}
use Rattle.grid_screen.proofs.OutageReductions.{fewer, none_left, stays_open, out_is_open}
use Rattle.grid_outages.proofs.Members.{Among, among_got, got_among, among_left, among_right, among_parts, among_map, map_among, among_filter, filter_among, among_flat, among_enumerate}
use Rattle.grid_screen.proofs.Outcomes.{outcome}
use Rattle.grid_screen.proofs.SwitchPlaces.{among_has, has_among, switch_own, placed_no_switch}
use Rattle.grid_screen.proofs.WalkResults.{map_back}
use Rattle.grid_screen.proofs.Sitings.{first_is_node, second_is_node, two_sites}
use Rattle.grid_screen.proofs.OutageSteps.{Outcome, all_taken}
use Rattle.grid_screen.proofs.BreakerTrips.{zone_has}
use Rattle.grid_screen.proofs.FaultZones.{IsPast, zone_across, across_nodes, zone_begun, starts_are_nodes}

-- the record of a switch in its position
pub record Recorded (ss : List Switch) (row : List Bool) (i : ℕ) (s : Switch) : Type 0 where
  pub switch : Switch
  pub at : slice_get ss i ≡ Some switch
  pub is : s ≡ with_flag_of (switch, get_or row i false)

recorded : (ss : List Switch) (row : List Bool) (i : ℕ) (s : Switch) → length row ≡ length ss → slice_get (with_opened ss row) i ≡ Some s → Recorded ss row i s
unfolding with_opened
recorded [] row i s long e = cc
recorded (x ∷ ss) [] i s long e = absurd (omega (arith, long))
recorded (x ∷ ss) (o ∷ row) zero s long e = let same : (record x { opened = o }) ≡ s = cc in record { switch = x; at = refl; is = sym same }
recorded (x ∷ ss) (o ∷ row) (suc i) s long e = let r = recorded ss row i s (omega (arith, long)) e in record { switch = r.switch; at = r.at; is = r.is }

positioned_here : (ss : List Switch) (row : List Bool) (i : ℕ) (x : Switch) (flag : Bool) → length row ≡ length ss → slice_get ss i ≡ Some x → get_or row i false ≡ flag → slice_get (with_opened ss row) i ≡ Some (with_flag_of (x, flag))
unfolding with_opened
positioned_here [] row i x flag long at is = cc
positioned_here (y ∷ ss) [] i x flag long at is = absurd (omega (arith, long))
positioned_here (y ∷ ss) (o ∷ row) zero x flag long at is = let same : y ≡ x = cc in rw (same, is) refl
positioned_here (y ∷ ss) (o ∷ row) (suc i) x flag long at is = positioned_here ss row i x flag (omega (arith, long)) at is

module _ (case : Case) (fault : FaultCase) (retained : List (List Bool)) (sound : IsSound case.structure) (fits : CaseFits case) where
  abbrev net : Network
  net = case.structure

  abbrev state : State
  state = state_in case retained

  abbrev before : State
  before = before_fault (state_in case retained) fault

  abbrev zone : List Site
  zone = zone_of (state_in case retained) fault

  abbrev all_ids : List (List ℕ)
  all_ids = fault.out ++ clearing_of (state_in case retained) fault

  abbrev starts : List Site
  starts = flat_map (sites_of case.structure) fault.fault

  abbrev hit : Site → Bool
  hit = is_hit (network_sites case.structure) (fault_ties before.structure before.opened fault.stuck) starts

  ground : (b : IsGround (ground_of case fault retained fault.stuck)) × IsPast (ground_of case fault retained fault.stuck) b before.structure fault.stuck
  ground = grounded case fault retained fault.stuck sound fits

  begun : (s : Site) → Among s starts → IsNode case.structure s
  begun = starts_are_nodes case.structure fault.fault sound

  in_is_hit : (k n : ℕ) → IsNode case.structure (site_at k n) → in_zone zone k n ≡ hit (site_at k n)
  unfolding zone_of zone_from zone_over
  in_is_hit k n node = zone_has case.structure hit k n node

  outcome_before : Outcome state (state_without state fault.out) (levels_after net fault.out (levels net)) (rows_after net fault.out case.states.opened)
  outcome_before = outcome (state_in case retained) fault.out sound

  -- ---- a switch before the fault

  module _ (k i : ℕ) (l : VoltageLevel) (x : Switch) (at : slice_get (levels case.structure) k ≡ Some l) (is : slice_get l.switches i ≡ Some x) (closed : get_or (row_at before.opened k) i false ≡ false) where
    abbrev place : SwitchAt
    place = record { level = k; place = i }

    abbrev s : Switch
    s = with_flag_of (x, false)

    row_long : length (row_at before.opened k) ≡ length l.switches
    row_long = ground.0.flags k l at

    here : slice_get (with_opened l.switches (row_at before.opened k)) i ≡ Some s
    here = positioned_here l.switches (row_at before.opened k) i x false row_long is closed

    first_hit : in_zone zone k x.node1 ≡ hit (site_at k x.node1)
    first_hit = in_is_hit k x.node1 (first_is_node case.structure place l x sound at is)

    second_hit : in_zone zone k x.node2 ≡ hit (site_at k x.node2)
    second_hit = in_is_hit k x.node2 (second_is_node case.structure place l x sound at is)

    -- a fault passes over it: both nodes are in the zone or neither
    passes_both : passes_fault fault.stuck s ≡ true → in_zone zone k x.node1 ≡ in_zone zone k x.node2
    unfolding passing_fault positioned ends
    passes_both pass =
        let pair = among_left (x.node1, x.node2) (map (λ (s : Switch). ends (switch_edge s)) (filter (passes_fault fault.stuck) (with_opened l.switches (row_at before.opened k)))) (map (λ (i : Internal). ends (internal_edge i)) l.internals)
        (among_map (λ (s : Switch). ends (switch_edge s)) s (filter (passes_fault fault.stuck) (with_opened l.switches (row_at before.opened k)))
        (among_filter (passes_fault fault.stuck) s (with_opened l.switches (row_at before.opened k)) (among_got (with_opened l.switches (row_at before.opened k)) i s here) pass)) in
        let got = got_among (x.node1, x.node2) (passing_fault fault.stuck (positioned l (row_at before.opened k))) pair in
        first_hit ∙ zone_across (ground_of case fault retained fault.stuck) ground.0 before.structure fault.stuck ground.1 starts begun k got.0 l (x.node1, x.node2) at got.1 ∙ sym second_hit

    found : find_switch case.structure x.id ≡ Some (k, i)
    found = switch_own case.structure k i l x sound at is

    -- it is hit itself: both nodes are in the zone
    fault_both : has_id fault.fault x.id ≡ true → in_zone zone k x.node1 ≡ in_zone zone k x.node2
    unfolding sites_of
    fault_both h =
        let own : sites_of case.structure x.id ≡ (site_at k x.node1 ∷ []) ++ (site_at k x.node2 ∷ []) = ap (sites_by case.structure x.id) found ∙ two_sites case.structure place l x sound at is in
        let one = among_flat (sites_of case.structure) (site_at k x.node1) x.id fault.fault (has_among x.id fault.fault h) (subst (Among (site_at k x.node1)) (sym own) (inl refl)) in
        let two = among_flat (sites_of case.structure) (site_at k x.node2) x.id fault.fault (has_among x.id fault.fault h) (subst (Among (site_at k x.node2)) (sym own) (inr (inl refl))) in
        let begins = zone_begun (ground_of case fault retained fault.stuck) ground.0 before.structure fault.stuck ground.1 starts begun in
        first_hit ∙ begins (site_at k x.node1) one ∙ sym (second_hit ∙ begins (site_at k x.node2) two)

    -- it can trip, and a node is in the zone: it trips
    trips_there : can_trip fault.stuck fault.fault s ≡ true → (in_zone zone k x.node1 || in_zone zone k x.node2) ≡ true → Among (switch_spot (k, i)) (tripped_of (state_in case retained) fault)
    unfolding tripped_of tripped_from tripped_in spots_that trips positioned_at positioned level_without
    trips_there can inside =
        let m = level_without ground.0.removed l in
        let none : 0 + k ≡ k = omega arith in
        let none_here : 0 + i ≡ i = omega arith in
        let there : slice_get (levels before.structure) k ≡ Some m = ap (λ z. slice_get z k) ground.0.left ∙ map_got (level_without ground.0.removed) (levels case.structure) k l at in
        let level = subst (λ (z : ℕ). Among {X = ℕ × VoltageLevel} (z, m) (enumerate_from 0 (levels before.structure))) none (among_enumerate (levels before.structure) 0 k m there) in
        let ss = with_opened l.switches (row_at before.opened k) in
        let number = subst (λ (z : ℕ). Among {X = ℕ × Switch} (z, s) (enumerate_from 0 ss)) none_here (among_enumerate ss 0 i s here) in
        let test = λ (at : ℕ × Switch). can_trip fault.stuck fault.fault at.1 && (in_zone zone k at.1.node1 || in_zone zone k at.1.node2) in
        among_flat (tripped_in before fault zone) (switch_spot (k, i)) (k, m) (enumerate_from 0 (levels before.structure)) level
        (among_map (λ (s : ℕ × Switch). switch_spot (k, s.0)) (i, s) (filter test (enumerate_from 0 ss)) (among_filter test (i, s) (enumerate_from 0 ss) number (and_from _ _ can inside)))

    -- what trips is out when the fault is cleared
    tripped_is_out : Among (switch_spot (k, i)) (tripped_of (state_in case retained) fault) → Among x.id all_ids
    unfolding clearing_of
    tripped_is_out trip =
        let id = subst (Among x.id) (sym (switch_read case.structure place l x at is)) (inl refl) in
        among_right x.id fault.out _ (among_left x.id _ _ (among_flat (switch_ids case.structure) x.id (switch_spot (k, i)) (tripped_of (state_in case retained) fault) trip id))

    -- what is hit is out then
    hit_is_out : has_id fault.fault x.id ≡ true → Among x.id all_ids
    unfolding clearing_of is_switch
    hit_is_out h =
        among_right x.id fault.out _ (among_right x.id (flat_map (switch_ids case.structure) (tripped_of (state_in case retained) fault)) _
        (among_left x.id _ _ (among_filter (is_switch case.structure) x.id fault.fault (has_among x.id fault.fault h) (rw found refl))))

    -- both nodes are in the zone or neither, or it is out when the fault is cleared
    both_or_out : (in_zone zone k x.node1 ≡ in_zone zone k x.node2) ⊎ Among x.id all_ids
    unfolding passes_fault can_trip is_operable
    both_or_out = by (is_operable x) (has_id fault.stuck x.id) (has_id fault.fault x.id) (in_zone zone k x.node1 || in_zone zone k x.node2) refl refl refl refl
      where
        by : (o u f z : Bool) → is_operable x ≡ o → has_id fault.stuck x.id ≡ u → has_id fault.fault x.id ≡ f → (in_zone zone k x.node1 || in_zone zone k x.node2) ≡ z
            → (in_zone zone k x.node1 ≡ in_zone zone k x.node2) ⊎ Among x.id all_ids
        by false u f z a b c d = inl (passes_both (rw a refl))
        by true true f z a b c d = inl (passes_both (rw (a, b) refl))
        by true false true z a b c d = inr (hit_is_out c)
        by true false false true a b c d = inr (tripped_is_out (trips_there (rw (a, b, c) refl) d))
        by true false false false a b c d = let both = not_either (in_zone zone k x.node1) (in_zone zone k x.node2) d in inl (both.0 ∙ sym both.1)

    -- a breaker with just one node in the zone
    one_trips : is_operable x ≡ true → (in_zone zone k x.node1 ≡ in_zone zone k x.node2 → ⊥) → Among (switch_spot (k, i)) (tripped_of (state_in case retained) fault)
    unfolding passes_fault can_trip is_operable
    one_trips operable apart = by (has_id fault.stuck x.id) (has_id fault.fault x.id) (in_zone zone k x.node1 || in_zone zone k x.node2) refl refl refl
      where
        by : (u f z : Bool) → has_id fault.stuck x.id ≡ u → has_id fault.fault x.id ≡ f → (in_zone zone k x.node1 || in_zone zone k x.node2) ≡ z → Among (switch_spot (k, i)) (tripped_of (state_in case retained) fault)
        by true f z b c d = absurd (apart (passes_both (rw (operable, b) refl)))
        by false true z b c d = absurd (apart (fault_both c))
        by false false true b c d = trips_there (rw (operable, b, c) refl) d
        by false false false b c d = let both = not_either (in_zone zone k x.node1) (in_zone zone k x.node2) d in absurd (apart (both.0 ∙ sym both.1))

  -- ---- when the fault is cleared

  outcome_cleared : Outcome state (state_without state all_ids) (levels_after net all_ids (levels net)) (rows_after net all_ids case.states.opened)
  outcome_cleared = outcome (state_in case retained) all_ids sound

  abbrev cleared : State
  cleared = state_without (state_in case retained) all_ids

  rows_before : before.opened ≡ rows_after case.structure fault.out case.states.opened
  unfolding before_fault
  rows_before = sym outcome_before.rows_are

  rows_behind : cleared.opened ≡ rows_after case.structure (clearing_of (state_in case retained) fault) before.opened
  unfolding rows_after
  rows_behind =
      sym outcome_cleared.rows_are ∙ fold-append (rows_with_out case.structure) case.states.opened fault.out (clearing_of (state_in case retained) fault)
      ∙ ap (rows_after case.structure (clearing_of (state_in case retained) fault)) (sym rows_before)

  levels_behind : levels cleared.structure ≡ levels_after case.structure (clearing_of (state_in case retained) fault) (levels before.structure)
  unfolding levels_after before_fault
  levels_behind =
      sym outcome_cleared.levels_are ∙ fold-append (levels_with_out case.structure) (levels case.structure) fault.out (clearing_of (state_in case retained) fault)
      ∙ ap (levels_after case.structure (clearing_of (state_in case retained) fault)) outcome_before.levels_are

  -- the level of the screened state
  record Root (k : ℕ) (l : VoltageLevel) : Type 0 where
    level : VoltageLevel
    at : slice_get (levels case.structure) k ≡ Some level
    is : level_without outcome_cleared.removed level ≡ l

  root : (k : ℕ) (l : VoltageLevel) → slice_get (levels cleared.structure) k ≡ Some l → Root k l
  root k l at =
      let r = map_back (level_without outcome_cleared.removed) (levels case.structure) k l (ap (λ z. slice_get z k) (sym outcome_cleared.out.levels_left) ∙ at) in
      record { level = r.0; at = r.1; is = r.2 }

  no_terminal : (k i : ℕ) (l : VoltageLevel) (p : Placed) → slice_get (levels cleared.structure) k ≡ Some l → slice_get l.placed i ≡ Some p → in_zone zone k p.node ≡ false
  unfolding level_without clearing_of zone_equipment equipment_in
  no_terminal k i l p at is = by (in_zone zone k p.node) refl
    where
      by : (t : Bool) → in_zone zone k p.node ≡ t → t ≡ false
      by false e = refl
      by true e =
          let r = root k l at in
          let here = among_got l.placed i p is in
          let kept = (filter_among (λ (q : Placed). not (has_id outcome_cleared.removed q.terminal.equipment)) p r.level.placed (subst (λ (z : VoltageLevel). Among p z.placed) (sym r.is) here)).0 in
          let none = placed_no_switch case.structure k r.level p sound r.at kept in
          let was = fewer case.structure (clearing_of (state_in case retained) fault) (levels before.structure) k l (ap (λ z. slice_get z k) (sym levels_behind) ∙ at) in
          let zero_more : 0 + k ≡ k = omega arith in
          let level = subst (λ (z : ℕ). Among {X = ℕ × VoltageLevel} (z, was.level) (enumerate_from 0 (levels before.structure))) zero_more (among_enumerate (levels before.structure) 0 k was.level was.at) in
          let own = among_map (λ (q : Placed). q.terminal.equipment) p (filter (λ (q : Placed). in_zone zone k q.node) was.level.placed) (among_filter (λ (q : Placed). in_zone zone k q.node) p was.level.placed (was.terminals p here) e) in
          let named = among_flat (equipment_in zone) p.terminal.equipment (k, was.level) (enumerate_from 0 (levels before.structure)) level own in
          let out = among_right p.terminal.equipment fault.out _ (among_right p.terminal.equipment (flat_map (switch_ids case.structure) (tripped_of (state_in case retained) fault)) _ (among_right p.terminal.equipment (filter (is_switch case.structure) fault.fault) _ named)) in
          let again = levels_again case.structure all_ids (levels case.structure) p.terminal.equipment (among_has p.terminal.equipment all_ids out) in
          let gone = (equipment_out case.structure p.terminal.equipment (levels_after case.structure all_ids (levels case.structure)) [] none).0 in
          let same = sym (all_taken (state_in case retained) outcome_cleared.removed cleared p.terminal.equipment sound outcome_cleared.out)
          ∙ ap (taken_out case.structure p.terminal.equipment) (sym outcome_cleared.levels_are) ∙ sym gone ∙ again ∙ outcome_cleared.levels_are in
          absurd (none_left p.terminal.equipment (levels cleared.structure) k l p same at here refl)

  states_long : length case.states.opened ≡ length (levels case.structure)
  states_long = rows_of_levels case.structure case.states.opened fits

  state_row : (k : ℕ) (l : VoltageLevel) → slice_get (levels case.structure) k ≡ Some l → length (row_at case.states.opened k) ≡ length l.switches
  state_row k l at = flags_fit case.structure case.states.opened fits k l at

  cleared_row : (k : ℕ) (l : VoltageLevel) → slice_get (levels case.structure) k ≡ Some l → length (row_at cleared.opened k) ≡ length l.switches
  unfolding rows_after
  cleared_row k l at = ap (λ z. length (row_at z k)) (sym outcome_cleared.rows_are) ∙ after_row case.structure all_ids case.states.opened k ∙ state_row k l at

  -- what is closed then was closed before the fault
  was_closed : (k j : ℕ) → get_or (row_at cleared.opened k) j false ≡ false → get_or (row_at before.opened k) j false ≡ false
  was_closed k j closed = by (get_or (row_at before.opened k) j false) refl
    where
      by : (t : Bool) → get_or (row_at before.opened k) j false ≡ t → t ≡ false
      by false e = refl
      by true e =
          let still = stays_open case.structure (clearing_of (state_in case retained) fault) before.opened k j e in
          absurd (true≢false (sym still ∙ ap (λ z. get_or (row_at z k) j false) (sym rows_behind) ∙ closed))

  -- a switch that is closed then, in its level before any outage
  switch_across : (k j : ℕ) (l : VoltageLevel) (x : Switch) → slice_get (levels case.structure) k ≡ Some l → slice_get l.switches j ≡ Some x → get_or (row_at cleared.opened k) j false ≡ false → in_zone zone k x.node1 ≡ in_zone zone k x.node2
  switch_across k j l x at is closed = elim (both_or_out k j l x at is (was_closed k j closed)) [
    | inl e ↦ e
    | inr out ↦ (let lt = got_below (levels case.structure) k l at in
        let less = got_below l.switches j x is in
        let long = states_long in
        let row = state_row k l at in
        let opens = out_is_open case.structure all_ids case.states.opened x.id k j (among_has x.id all_ids out) (switch_own case.structure k j l x sound at is) (omega (arith, lt, long)) (omega (arith, less, row)) in
        absurd (true≢false (sym opens ∙ ap (λ z. get_or (row_at z k) j false) outcome_cleared.rows_are ∙ closed)))
  ]

  internal_across : (k : ℕ) (l : VoltageLevel) (pair : ℕ × ℕ) → slice_get (levels case.structure) k ≡ Some l → Among pair (map (λ (i : Internal). ends (internal_edge i)) l.internals) → in_zone zone k pair.0 ≡ in_zone zone k pair.1
  unfolding passing_fault positioned
  internal_across k l pair at h =
      let there = among_right pair (map (λ (s : Switch). ends (switch_edge s)) (filter (passes_fault fault.stuck) (with_opened l.switches (row_at before.opened k)))) (map (λ (i : Internal). ends (internal_edge i)) l.internals) h in
      let got = got_among pair (passing_fault fault.stuck (positioned l (row_at before.opened k))) there in
      let nodes = across_nodes (ground_of case fault retained fault.stuck) ground.0 before.structure fault.stuck ground.1 starts begun k got.0 l pair at got.1 in
      in_is_hit k pair.0 nodes.0 ∙ zone_across (ground_of case fault retained fault.stuck) ground.0 before.structure fault.stuck ground.1 starts begun k got.0 l pair at got.1 ∙ sym (in_is_hit k pair.1 nodes.1)

  no_edge : (k i : ℕ) (l : VoltageLevel) (pair : ℕ × ℕ) → slice_get (levels cleared.structure) k ≡ Some l → slice_get (passing bus (positioned_at cleared k l)) i ≡ Some pair → in_zone zone k pair.0 ≡ in_zone zone k pair.1
  unfolding passing positioned_at positioned level_without switch_passes passes_closed ends
  no_edge k i l pair at got =
      elim (among_parts pair (map (λ (s : Switch). ends (switch_edge s)) (filter (switch_passes bus) (with_opened l.switches (row_at cleared.opened k)))) (map (λ (i : Internal). ends (internal_edge i)) l.internals) (among_got _ i pair got)) [
        | inl h ↦ over h
        | inr h ↦ internal_across k r.level pair r.at (subst (λ (z : VoltageLevel). Among pair (map (λ (i : Internal). ends (internal_edge i)) z.internals)) (sym r.is) h)
      ]
    where
      r : Root k l
      r = root k l at

      same : l.switches ≡ r.level.switches
      same = ap (λ (z : VoltageLevel). z.switches) (sym r.is)

      over : Among pair (map (λ (s : Switch). ends (switch_edge s)) (filter (switch_passes bus) (with_opened l.switches (row_at cleared.opened k)))) → in_zone zone k pair.0 ≡ in_zone zone k pair.1
      over h =
          let ss = with_opened l.switches (row_at cleared.opened k) in
          let s = map_among (λ (s : Switch). ends (switch_edge s)) pair (filter (switch_passes bus) ss) h in
          let both = filter_among (switch_passes bus) s.0 ss s.1 in
          let got = got_among s.0 ss both.0 in
          let x = recorded l.switches (row_at cleared.opened k) got.0 s.0 (cleared_row k r.level r.at ∙ ap length (sym same)) got.1 in
          let is = ap (λ z. slice_get z got.0) (sym same) ∙ x.at in
          let shut = not-true s.0.opened (and_parts (not s.0.opened) true both.1).0 in
          let closed = ap (λ (z : Switch). z.opened) (sym x.is) ∙ shut in
          ap (λ (z : ℕ × ℕ). in_zone zone k z.0) s.2 ∙ ap (λ (z : Switch). in_zone zone k z.node1) x.is ∙ switch_across k got.0 r.level x.switch r.at is closed
          ∙ sym (ap (λ (z : ℕ × ℕ). in_zone zone k z.1) s.2 ∙ ap (λ (z : Switch). in_zone zone k z.node2) x.is)

pub zone_is_cleared : ZoneIsCleared
zone_is_cleared case fault retained sound fits =
    subst (IsClearOf (zone_of (state_in case retained) fault)) (sym (cleared_is (state_in case retained) fault)) (record { edges = no_edge case fault retained sound fits; terminals = no_terminal case fault retained sound fits })

pub one_node_trips : OneNodeTrips
unfolding positioned_at positioned level_without is_operable
one_node_trips case fault retained k i l s sound fits at is closed operable apart =
    let g = (grounded case fault retained fault.stuck sound fits).0 in
    let before = before_fault (state_in case retained) fault in
    let r = map_back (level_without g.removed) (levels case.structure) k l (ap (λ z. slice_get z k) (sym g.left) ∙ at) in
    let same : l.switches ≡ r.0.switches = ap (λ (z : VoltageLevel). z.switches) (sym r.2) in
    let x = recorded l.switches (row_at before.opened k) i s (g.flags k r.0 r.1 ∙ ap length (sym same)) is in
    let own = ap (λ z. slice_get z i) (sym same) ∙ x.at in
    let shut = ap (λ (z : Switch). z.opened) (sym x.is) ∙ closed in
    let breaker = ap is_operable (sym x.is) ∙ operable in
    let trips = one_trips case fault retained sound fits k i r.0 x.switch r.1 own shut breaker
    (λ e. apart (ap (λ (z : Switch). in_zone (zone_of (state_in case retained) fault) k z.node1) x.is ∙ e ∙ ap (λ (z : Switch). in_zone (zone_of (state_in case retained) fault) k z.node2) (sym x.is))) in
    got_among (switch_spot (k, i)) (tripped_of (state_in case retained) fault) trips
