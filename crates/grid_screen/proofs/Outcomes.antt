-- The figures by what is kept and changed are those of the state after the outage.
use Rattle.std.proofs.Common.{◌≡◌, refl, sym, ap, ◌∙◌, subst, ℕ, List, [], length, map}
use Rattle.std.specs.Prelude.{flat_map}
use Rattle.std.proofs.lemmas.List.{length-map}
use Rattle.grid_graph.specs.Components.{places}
use Rattle.grid_graph.specs.Graph.{EndsBelow}
use Rattle.grid_structure.specs.Sites.{levels}
use Rattle.grid_structure.specs.Soundness.{IsSound}
use Rattle.grid_islands.specs.Islands.{NetworkBus, bus_pairs}
use Rattle.grid_core.specs.Solo.{State}
use Rattle.grid_unions.specs.declared.summed.Sums.{Sums}
use Rattle.grid_screen.specs.Figures.{figures_over}
use Rattle.grid_screen.specs.Findings.{figures_of}
use Rattle.grid_screen.specs.Outages.{state_without}
use Rattle.grid_figures.specs.Figures.{figures_by}
use Rattle.grid_sums.specs.Sums.{bus_sums}
use Rattle.grid_outages.specs.Changes.{Changes, buses_over, level_sums, level_places, sums_before, network_links, link_pairs}
use Rattle.grid_outages.specs.Steps.{Stands, levels_after, rows_after}
use Rattle.grid_screen.proofs.Buses.{all_sums}
use Rattle.grid_screen.proofs.SumFigures.{figured, pairs_below}
use Rattle.grid_screen.proofs.EquipmentOutages.{pairs_left}
use Rattle.grid_screen.proofs.OutageSteps.{Outcome, none_out, all_more, buses_of_state}

-- the state after the outage, with what the levels and rows by list are
pub outcome : (first : State) (ids : List (List ℕ)) → IsSound first.structure → Outcome first (state_without first ids) (levels_after first.structure ids (levels first.structure)) (rows_after first.structure ids first.opened)
unfolding state_without levels_after rows_after
outcome first ids sound = all_more first first (levels first.structure) first.opened ids sound (record { removed = []; out = none_out first sound; levels_are = refl; rows_are = refl })

pub record Screens (first : State) (ids : List (List ℕ)) (sums : List Sums) (pairs : List (ℕ × ℕ)) : Type 0 where
  pub ends : EndsBelow pairs (length sums)
  pub is : figures_by sums pairs ≡ figures_of (state_without first ids)

pub screens : (first : State) (ids : List (List ℕ)) (changes : Changes) (firsts : List ℕ) (sums : List Sums) (pairs : List (ℕ × ℕ)) → IsSound first.structure
    → Stands first.powers (levels first.structure) first.opened changes (levels_after first.structure ids (levels first.structure)) (rows_after first.structure ids first.opened)
    → firsts ≡ map (λ (place : ℕ). length (sums_before (level_sums first.powers (levels first.structure) first.opened) changes place)) (places (length (levels first.structure)))
    → sums ≡ sums_before (level_sums first.powers (levels first.structure) first.opened) changes (length (levels first.structure))
    → pairs ≡ flat_map (link_pairs firsts changes) (network_links first.structure (level_places (levels first.structure) first.opened)) → Screens first ids sums pairs
unfolding figures_of
screens first ids changes firsts sums pairs sound s first_is sums_is pairs_is =
    let net = first.structure in
    let state = state_without first ids in
    let o = outcome first ids sound in
    let now : Stands first.powers (levels net) first.opened changes (levels state.structure) state.opened =
    rw (o.levels_are, o.rows_are) at s in
    let all = buses_over first.powers (levels state.structure) state.opened in
    let own = λ (b : NetworkBus). bus_sums b.1 in
    let listed : sums ≡ map own all = sums_is ∙ all_sums first.powers (levels net) first.opened changes (levels state.structure) state.opened now in
    let joined : pairs ≡ bus_pairs state.structure all =
    pairs_is ∙ ap (λ z. flat_map (link_pairs z changes) (network_links net (level_places (levels net) first.opened))) first_is
    ∙ pairs_left net state.structure sound o.removed first.powers first.opened changes state.opened o.out.levels_left o.out.branches_left now in
    let long : length all ≡ length sums = sym (ap length listed ∙ length-map all own) in
    record {
      ends = subst (λ z. EndsBelow z (length sums)) (sym joined) (subst (EndsBelow (bus_pairs state.structure all)) long (pairs_below state.structure all));
      is = ap (λ z. figures_by z pairs) listed ∙ ap (figures_by (map own all)) joined ∙ figured all (bus_pairs state.structure all)
          ∙ ap (λ z. figures_over z (bus_pairs state.structure z)) (sym (buses_of_state first o.removed state o.out));
    }
