-- What became unconnected is the watts of what stands in a bus before and in none after.
use Rattle.std.proofs.Common.{◌≡◌, refl, sym, ap, ◌∙◌, subst, ℕ, ℤ, Bool, true, false, not, ◌&&◌, List, [], ◌∷◌, ◌++◌, map, length, get_or, Some}
use Rattle.std.specs.Prelude.{◌+ℤ◌, neg_ℤ, filter, slice_get}
use Rattle.std.specs.List.{list_any}
use Rattle.grid_level.specs.declared.Placed.{Placed}
use Rattle.grid_level.specs.declared.Stand.{Stand}
use Rattle.grid_level.specs.VoltageLevel.{VoltageLevel}
use Rattle.grid_level.specs.Passing.{is_branch_end}
use Rattle.grid_states.specs.Rows.{row_at}
use Rattle.grid_structure.specs.Network.{Network}
use Rattle.grid_structure.specs.Sites.{levels}
use Rattle.grid_structure.specs.Soundness.{IsSound}
use Rattle.grid_busview.specs.declared.ViewBus.{ViewBus}
use Rattle.grid_busview.specs.Views.{is_load, is_generation, bus_view_of}
use Rattle.grid_watts.specs.Watts.{watts_sum, terminals}
use Rattle.grid_islands.specs.Islands.{NetworkBus}
use Rattle.grid_core.specs.Fitting.{RowsFit}
use Rattle.grid_core.specs.Solo.{State}
use Rattle.grid_core.proofs.VariantViews.{flags_fit}
use Rattle.grid_screened.specs.Laws.{IsOfUnconnected, Unconnected}
use Rattle.grid_screen.specs.Figures.{total_over, figures_over}
use Rattle.grid_screen.specs.Findings.{state_buses, figures_of}
use Rattle.grid_screen.specs.Found.{losses_of}
use Rattle.grid_screen.specs.Faults.{before_fault, clearing_of}
use Rattle.grid_screen.specs.Outages.{state_without}
use Rattle.grid_outages.specs.Changes.{level_without, buses_over}
use Rattle.grid_outages.specs.Steps.{levels_after, rows_after}
use Rattle.grid_screened.specs.Unconnected.{stands_in_bus, is_unconnected, unconnected_watts}
use Rattle.grid_screened.proofs.Alone.{load_alone, generation_alone}
use Rattle.grid_screened.proofs.BusNodes.{in_bus, load_sum, generation_sum}
use Rattle.grid_screen.proofs.Clearings.{cleared_is}
use Rattle.grid_screened.proofs.InBuses.{has_equipment}
use Rattle.grid_screen.proofs.Leasts.{after_row}
use Rattle.grid_screen.proofs.OutageReductions.{stays_open}
use Rattle.grid_screened.proofs.Lost as lost
use Rattle.grid_screen.proofs.Outcomes.{outcome}
use Rattle.grid_screen.proofs.OutageSteps.{Outcome, none_out, buses_of_state}
use Rattle.grid_screened.proofs.ListSums.{sum_of, passing_only}

module _ (state : State) (ids : List (List ℕ)) (sound : IsSound state.structure) (fits : RowsFit state.structure state.opened) where
  abbrev net : Network
  net = state.structure

  abbrev new : State
  new = state_without state ids

  after : Outcome state (state_without state ids) (levels_after state.structure ids (levels state.structure)) (rows_after state.structure ids state.opened)
  after = outcome state ids sound

  abbrev removed : List (List ℕ)
  removed = after.removed

  row_fits : (k : ℕ) (l : VoltageLevel) → slice_get (levels state.structure) k ≡ Some l → length (row_at state.opened k) ≡ length l.switches
  row_fits k l at = flags_fit state.structure state.opened fits k l at

  now_fits : (k : ℕ) (l : VoltageLevel) → slice_get (levels state.structure) k ≡ Some l → length (row_at new.opened k) ≡ length l.switches
  unfolding rows_after
  now_fits k l at = ap (λ z. length (row_at z k)) (sym after.rows_are) ∙ after_row net ids state.opened k ∙ row_fits k l at

  opens : (k j : ℕ) → get_or (row_at state.opened k) j false ≡ true → get_or (row_at new.opened k) j false ≡ true
  opens k j h = ap (λ z. get_or (row_at z k) j false) (sym after.rows_are) ∙ stays_open net ids state.opened k j h

  buses_before : state_buses state ≡ buses_over state.powers (levels state.structure) state.opened
  buses_before = buses_of_state state [] state (none_out state sound)

  buses_after : state_buses new ≡ buses_over state.powers (map (level_without removed) (levels state.structure)) new.opened
  buses_after = buses_of_state state removed new after.out ∙ ap (λ z. buses_over state.powers z new.opened) after.out.levels_left

  abbrev any_has : List ℕ → List NetworkBus → Bool
  any_has id all = list_any (λ (b : NetworkBus). has_equipment id b.1) all

  stood_is : (id : List ℕ) → stands_in_bus state id ≡ any_has id (buses_over state.powers (levels state.structure) state.opened)
  unfolding stands_in_bus
  stood_is id = ap (any_has id) buses_before

  stands_is : (id : List ℕ) → stands_in_bus new id ≡ any_has id (buses_over state.powers (map (level_without removed) (levels state.structure)) new.opened)
  unfolding stands_in_bus
  stands_is id = ap (any_has id) buses_after

  filter_same : (p q : Placed → Bool) (ps : List Placed) → ((x : Placed) → p x ≡ q x) → filter p ps ≡ filter q ps
  filter_same p q [] h = refl
  filter_same p q (x ∷ ps) h = rw (h x, filter_same p q ps h) refl

  of_watts : (watts : ViewBus → ℤ) (test : Stand → Bool)
      → ((level : VoltageLevel) (w : Placed → ℤ) → sum_of watts (bus_view_of level (map w level.placed)).buses ≡ sum_of (passing_only (λ p. test p.stand) (passing_only (λ p. in_bus level p.node) w)) level.placed)
      → ((s : Stand) → test s ≡ true → is_branch_end s ≡ false) → total_over watts (state_buses state) +ℤ neg_ℤ (total_over watts (state_buses new)) ≡ unconnected_watts test state new
  unfolding unconnected_watts is_unconnected
  of_watts watts test sums alone =
      let listed = state.powers in
      ap (λ z. total_over watts z +ℤ neg_ℤ (total_over watts (state_buses new))) buses_before
      ∙ ap (λ z. total_over watts (buses_over listed (levels net) state.opened) +ℤ neg_ℤ (total_over watts z)) buses_after
      ∙ lost.difference net listed state.opened new.opened removed sound row_fits now_fits opens watts test sums alone
      ∙ ap (watts_sum listed) (filter_same
      (λ p. test p.stand && (any_has p.terminal.equipment (buses_over listed (levels net) state.opened) && not (any_has p.terminal.equipment (buses_over listed (map (level_without removed) (levels net)) new.opened))))
      (λ p. test p.stand && (stands_in_bus state p.terminal.equipment && not (stands_in_bus new p.terminal.equipment))) (terminals net)
      (λ p. ap (λ z. test p.stand && (z && not (any_has p.terminal.equipment (buses_over listed (map (level_without removed) (levels net)) new.opened)))) (sym (stood_is p.terminal.equipment))
      ∙ ap (λ z. test p.stand && (stands_in_bus state p.terminal.equipment && not z)) (sym (stands_is p.terminal.equipment))))

  outage : IsOfUnconnected state new
  unfolding losses_of figures_of figures_over
  outage = record {
    load = of_watts (λ b. b.load) is_load load_sum load_alone;
    generation = of_watts (λ b. b.generation) is_generation generation_sum generation_alone;
    none_new = λ id h. stood_is id ∙ lost.none_new net state.powers state.opened new.opened removed sound row_fits now_fits opens id (sym (stands_is id) ∙ h);
  }

pub unconnected : Unconnected
unfolding before_fault
unconnected state event sound fits =
    (outage state event.out sound fits, subst (IsOfUnconnected state) (sym (cleared_is state event)) (outage state (event.out ++ clearing_of state event) sound fits))
