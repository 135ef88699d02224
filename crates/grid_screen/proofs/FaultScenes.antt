-- The levels and flags before a fault.
use Rattle.std.proofs.Common.{◌≡◌, refl, sym, ap, ◌∙◌, subst, ℕ, Bool, List, [], map, length}
use Rattle.std.specs.Prelude.{filter, flat_map}
use Rattle.grid_states.specs.Rows.{row_at}
use Rattle.grid_structure.specs.Network.{Network}
use Rattle.grid_structure.specs.Sites.{levels, branches}
use Rattle.grid_structure.specs.Soundness.{IsSound}
use Rattle.grid_core.specs.declared.case.Case.{Case}
use Rattle.grid_json.specs.Seen.{Knows}
use Rattle.grid_contingencies.specs.declared.FaultCase.{FaultCase}
use Rattle.grid_structure.specs.declared.Site.{Site}
use Rattle.grid_screen.specs.Faults.{before_fault, zone_from, zone_of, IsZone}
use Rattle.grid_screen.specs.Findings.{state_in}
use Rattle.grid_screen.specs.Grounds.{Ground, IsGround, ground}
use Rattle.grid_outages.specs.Changes.{Changes, level_without, branches_without, shown_levels, shown_rows}
use Rattle.grid_screen.specs.Scenes.{IsScene}
use Rattle.grid_screen.specs.Walks.{Touches, hits, IsSettled}
use Rattle.grid_screen.specs.Zones.{network_sites, sites_of, fault_ties, zone_over}
use Rattle.grid_outages.specs.Steps.{Shows, levels_after, rows_after}
use Rattle.grid_screen.proofs.Outcomes.{outcome}
use Rattle.grid_outages.proofs.ShownLevels.{length-shown_rows}
use Rattle.grid_screen.proofs.OutageSteps.{Outcome}
use Rattle.grid_screen.proofs.FaultZones.{IsPast, zone_is, starts_are_nodes}

module _ (case : Case) (fault : FaultCase) (changes : Changes) (stuck : List (List ℕ)) (sound : IsSound case.structure)
    (shows : Shows (levels case.structure) case.states.opened changes (levels_after case.structure fault.out (levels case.structure)) (rows_after case.structure fault.out case.states.opened)) (known : Knows stuck fault.stuck) where
  scene : Ground
  scene = ground case.structure (shown_levels changes (levels case.structure)) (shown_rows changes case.states.opened) stuck

  past_of : (retained : List (List Bool)) → Outcome (state_in case retained) (before_fault (state_in case retained) fault) (levels_after case.structure fault.out (levels case.structure)) (rows_after case.structure fault.out case.states.opened)
  unfolding before_fault
  past_of retained = outcome (state_in case retained) fault.out sound

  pub is_ground : IsGround (ground case.structure (shown_levels changes (levels case.structure)) (shown_rows changes case.states.opened) stuck)
  is_ground =
      let o = past_of [] in
      record {
        sound = sound;
        removed = o.removed;
        left = shows.levels_are ∙ o.levels_are ∙ o.out.levels_left;
        rows = length-shown_rows changes case.states.opened (shows.long ∙ sym shows.rows_long) ∙ shows.rows_long;
        flags = λ k l at. ap (λ z. length (row_at z k)) shows.rows_are ∙ shows.flags_fit k l at;
      }

  pub is_scene : IsScene case fault (ground case.structure (shown_levels changes (levels case.structure)) (shown_rows changes case.states.opened) stuck)
  is_scene = record {
    net_is = refl;
    levels_are = λ retained. shows.levels_are ∙ (past_of retained).levels_are;
    opened_are = λ retained. shows.rows_are ∙ (past_of retained).rows_are;
    stuck_are = known;
  }

-- the network before the fault
pub past : (case : Case) (fault : FaultCase) (g : Ground) → IsGround g → IsScene case fault g → (retained : List (List Bool)) → (b : IsGround g) × IsPast g b (before_fault (state_in case retained) fault).structure fault.stuck
unfolding before_fault
past case fault g own is retained =
    let o = outcome (state_in case retained) fault.out (subst IsSound is.net_is own.sound) in
    let b : IsGround g = record {
      sound = own.sound;
      removed = o.removed;
      left = is.levels_are retained ∙ o.out.levels_left ∙ ap (λ (z : Network). map (level_without o.removed) (levels z)) (sym is.net_is);
      rows = own.rows;
      flags = own.flags;
    } in (
      b,
      record {
        sound = o.out.sound;
        levels_are = sym (is.levels_are retained);
        branches_are = o.out.branches_left ∙ ap (λ (z : Network). branches_without o.removed (branches z)) (sym is.net_is);
        known = λ q. sym (is.stuck_are q);
      },
    )

-- what a walk from the sites that are hit leads to is the zone
pub zone_found : (case : Case) (fault : FaultCase) (g : Ground) → IsGround g → IsScene case fault g → (touched : Touches) (zone : List Site)
    → IsSettled g (flat_map (sites_of g.net) fault.fault) touched → zone ≡ filter (hits touched) (network_sites g.net) → IsZone case fault zone
unfolding zone_of zone_from
zone_found case fault g own is touched zone settled listed retained =
    let p = past case fault g own is retained in
    let before = before_fault (state_in case retained) fault in
    let starts = flat_map (sites_of g.net) fault.fault in
    listed ∙ zone_is g p.0 before.structure fault.stuck p.1 starts (starts_are_nodes g.net fault.fault own.sound) touched settled
    ∙ ap (λ (z : Network). zone_over z (fault_ties before.structure g.opened fault.stuck) (flat_map (sites_of z) fault.fault)) is.net_is
    ∙ ap (λ z. zone_over case.structure (fault_ties before.structure z fault.stuck) (flat_map (sites_of case.structure) fault.fault)) (is.opened_are retained)
