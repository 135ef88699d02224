-- The zone is the least set of its kind.
use Rattle.std.proofs.Common.{◌≡◌, refl, sym, ap, ◌∙◌, subst, ℕ, zero, suc, Bool, true, not, ◌||◌, List, [], ◌∷◌, map, length, get_or, Option, Some, None, inl, inr}
use Rattle.std.specs.Prelude.{filter, flat_map, fold, slice_set}
use Rattle.std.specs.List.{enumerate_from}
use Rattle.std.proofs.lemmas.Bool.{and_parts, and_from, or_cases, or_left, or_right}
use Rattle.std.proofs.lemmas.List.{length-set}
use Rattle.grid_core.proofs.VariantViews.{flags_fit}
use Rattle.grid_core.proofs.Ranges.{rows_of_levels}
use Rattle.grid_core.specs.declared.case.Case.{Case}
use Rattle.grid_ids.specs.Name.{has_id}
use Rattle.grid_level.specs.declared.Switch.{Switch}
use Rattle.grid_level.specs.VoltageLevel.{VoltageLevel}
use Rattle.grid_level.specs.Passing.{switch_edge, internal_edge, ends, is_operable, positioned}
use Rattle.grid_states.specs.Rows.{row_at, with_row, with_flag}
use Rattle.grid_structure.specs.declared.Site.{Site}
use Rattle.grid_structure.specs.Soundness.{IsSound}
use Rattle.grid_contingencies.specs.declared.FaultCase.{FaultCase}
use Rattle.grid_structure.specs.Network.{Network}
use Rattle.grid_structure.specs.Sites.{levels, branches, find_switch}
use Rattle.grid_screen.specs.FaultLaws.{ZoneIsLeast, FailureSpreads}
use Rattle.grid_screen.specs.Faults.{before_fault, zone_from, zone_of}
use Rattle.grid_screen.specs.Findings.{CaseFits, state_in}
use Rattle.grid_screen.specs.Grounds.{Ground, IsGround, ground}
use Rattle.grid_outages.specs.Steps.{rows_by, rows_with_out, rows_after}
use Rattle.grid_screen.specs.Zones.{sites_at, network_sites, sites_of, passes_fault, passing_fault, level_ties, branch_ties, fault_ties, is_hit, zone_over}
use Rattle.grid_outages.proofs.Members.{Among, among_got, got_among, among_left, among_right, among_parts, among_map, map_among, among_filter, filter_among, among_flat, flat_among}
use Rattle.grid_screen.proofs.Outcomes.{outcome}
use Rattle.grid_screen.proofs.FaultZones.{IsPast, zone_least, zone_held, zone_begun, starts_are_nodes}

-- ---- rows keep their lengths

one_row : (rows : List (List Bool)) (k j p : ℕ) (t : Bool) → length (get_or (slice_set rows k (slice_set (get_or rows k []) p t)) j []) ≡ length (get_or rows j [])
one_row [] k j p t = refl
one_row (r ∷ rows) zero zero p t = length-set r p t
one_row (r ∷ rows) zero (suc j) p t = refl
one_row (r ∷ rows) (suc k) zero p t = refl
one_row (r ∷ rows) (suc k) (suc j) p t = one_row rows k j p t

flag_row : (rows : List (List Bool)) (k j p : ℕ) (t : Bool) → length (row_at (with_flag rows k p t) j) ≡ length (row_at rows j)
unfolding row_at with_flag with_row
flag_row rows k j p t = one_row rows k j p t

flag_rows : (rows : List (List Bool)) (k p : ℕ) (t : Bool) → length (with_flag rows k p t) ≡ length rows
unfolding with_flag with_row
flag_rows rows k p t = length-set rows k (slice_set (row_at rows k) p t)

out_row : (rows : List (List Bool)) (at : Option (ℕ × ℕ)) (j : ℕ) → length (row_at (rows_by at rows) j) ≡ length (row_at rows j)
out_row rows (Some at) j = flag_row rows at.0 j at.1 true
out_row rows None j = refl

out_rows : (rows : List (List Bool)) (at : Option (ℕ × ℕ)) → length (rows_by at rows) ≡ length rows
out_rows rows (Some at) = flag_rows rows at.0 at.1 true
out_rows rows None = refl

pub after_row : (net : Network) (ids : List (List ℕ)) (rows : List (List Bool)) (j : ℕ) → length (row_at (fold (rows_with_out net) rows ids) j) ≡ length (row_at rows j)
unfolding rows_with_out
after_row net [] rows j = refl
after_row net (id ∷ ids) rows j = after_row net ids (rows_by (find_switch net id) rows) j ∙ out_row rows (find_switch net id) j

pub after_rows : (net : Network) (ids : List (List ℕ)) (rows : List (List Bool)) → length (fold (rows_with_out net) rows ids) ≡ length rows
unfolding rows_with_out
after_rows net [] rows = refl
after_rows net (id ∷ ids) rows = after_rows net ids (rows_by (find_switch net id) rows) ∙ out_rows rows (find_switch net id)

-- ---- more breakers that fail

module _ (few many : List (List ℕ)) (more : (q : List ℕ) → has_id few q ≡ true → has_id many q ≡ true) where
  more_pass : (s : Switch) → passes_fault few s ≡ true → passes_fault many s ≡ true
  unfolding passes_fault
  more_pass s h =
      let both = and_parts (not s.opened) (not (is_operable s) || has_id few s.id) h in
      and_from (not s.opened) (not (is_operable s) || has_id many s.id) both.0 (elim (or_cases (not (is_operable s)) (has_id few s.id) both.1) [
        | inl e ↦ or_left (not (is_operable s)) (has_id many s.id) e
        | inr e ↦ or_right (not (is_operable s)) (has_id many s.id) (more s.id e)
      ])

  more_edges : (l : VoltageLevel) (pair : ℕ × ℕ) → Among pair (passing_fault few l) → Among pair (passing_fault many l)
  unfolding passing_fault
  more_edges l pair i = elim (among_parts pair (map (λ (s : Switch). ends (switch_edge s)) (filter (passes_fault few) l.switches)) (map (λ i. ends (internal_edge i)) l.internals) i) [
    | inl h ↦ (let s = map_among (λ (s : Switch). ends (switch_edge s)) pair (filter (passes_fault few) l.switches) h in
        let both = filter_among (passes_fault few) s.0 l.switches s.1 in
        among_left pair _ _ (subst (λ (z : ℕ × ℕ). Among z (map (λ (s : Switch). ends (switch_edge s)) (filter (passes_fault many) l.switches))) (sym s.2)
        (among_map (λ (s : Switch). ends (switch_edge s)) s.0 (filter (passes_fault many) l.switches) (among_filter (passes_fault many) s.0 l.switches both.0 (more_pass s.0 both.1)))))
    | inr h ↦ among_right pair (map (λ (s : Switch). ends (switch_edge s)) (filter (passes_fault many) l.switches)) _ h
  ]

  more_ties : (net : Network) (opened : List (List Bool)) (tie : Site × Site) → Among tie (fault_ties net opened few) → Among tie (fault_ties net opened many)
  unfolding fault_ties level_ties
  more_ties net opened tie i = elim (among_parts tie (flat_map (level_ties few opened) (enumerate_from 0 (levels net))) (flat_map (branch_ties net) (branches net)) i) [
    | inl h ↦ (let at = flat_among (level_ties few opened) tie (enumerate_from 0 (levels net)) h in
        let l = positioned at.0.1 (row_at opened at.0.0) in
        let pair = map_among (sites_at at.0.0) tie (passing_fault few l) at.2 in
        let there = subst (λ (z : Site × Site). Among z (map (sites_at at.0.0) (passing_fault many l))) (sym pair.2) (among_map (sites_at at.0.0) pair.0 (passing_fault many l) (more_edges l pair.0 pair.1)) in
        among_left tie (flat_map (level_ties many opened) (enumerate_from 0 (levels net))) _ (among_flat (level_ties many opened) tie at.0 (enumerate_from 0 (levels net)) at.1 there))
    | inr h ↦ among_right tie (flat_map (level_ties many opened) (enumerate_from 0 (levels net))) _ h
  ]

-- ---- the state before the fault

abbrev pub ground_of : Case → FaultCase → List (List Bool) → List (List ℕ) → Ground
ground_of case fault retained stuck = ground case.structure (levels (before_fault (state_in case retained) fault).structure) (before_fault (state_in case retained) fault).opened stuck

pub grounded : (case : Case) (fault : FaultCase) (retained : List (List Bool)) (stuck : List (List ℕ)) → IsSound case.structure → CaseFits case
    → (b : IsGround (ground_of case fault retained stuck)) × IsPast (ground_of case fault retained stuck) b (before_fault (state_in case retained) fault).structure stuck
unfolding before_fault rows_after
grounded case fault retained stuck sound fits =
    let net = case.structure in
    let o = outcome (state_in case retained) fault.out sound in
    let b : IsGround (ground_of case fault retained stuck) = record {
      sound = sound;
      removed = o.removed;
      left = o.out.levels_left;
      rows = ap length (sym o.rows_are) ∙ after_rows net fault.out case.states.opened ∙ rows_of_levels net case.states.opened fits;
      flags = λ k l there. ap (λ z. length (row_at z k)) (sym o.rows_are) ∙ after_row net fault.out case.states.opened k ∙ flags_fit net case.states.opened fits k l there;
    } in
    (b, record { sound = o.out.sound; levels_are = refl; branches_are = o.out.branches_left; known = λ q. refl })

-- ---- the laws

pub zone_is_least : ZoneIsLeast
unfolding zone_of zone_from
zone_is_least case fault retained set sound fits both starts i s at =
    let net = case.structure in
    let before = before_fault (state_in case retained) fault in
    let p = grounded case fault retained fault.stuck sound fits in
    let begun = flat_map (sites_of net) fault.fault in
    zone_least (ground_of case fault retained fault.stuck) p.0 before.structure fault.stuck p.1 begun (starts_are_nodes net fault.fault sound) set
    (λ tie j. let got = got_among tie (fault_ties before.structure before.opened fault.stuck) j in both got.0 tie got.1)
    (λ q j. let got = got_among q begun j in starts got.0 q got.1) s (among_got _ i s at)

pub failure_spreads : FailureSpreads
unfolding before_fault zone_of zone_from zone_over
failure_spreads case fault ids retained sound fits more i s at =
    let net = case.structure in
    let before = before_fault (state_in case retained) fault in
    let begun = flat_map (sites_of net) fault.fault in
    let sites = network_sites net in
    let few = is_hit sites (fault_ties before.structure before.opened fault.stuck) begun in
    let many = is_hit sites (fault_ties before.structure before.opened ids) begun in
    let are_nodes = starts_are_nodes net fault.fault sound in
    let small = grounded case fault retained fault.stuck sound fits in
    let big = grounded case fault retained ids sound fits in
    let inside = among_got (filter few sites) i s at in
    let node = (filter_among few s sites inside).0 in
    let hit = zone_least (ground_of case fault retained fault.stuck) small.0 before.structure fault.stuck small.1 begun are_nodes many
    (λ tie j. zone_held (ground_of case fault retained ids) big.0 before.structure ids big.1 begun are_nodes tie (more_ties fault.stuck ids more before.structure before.opened tie j))
    (zone_begun (ground_of case fault retained ids) big.0 before.structure ids big.1 begun are_nodes) s inside in
    got_among s (filter many sites) (among_filter many s sites node hit)
