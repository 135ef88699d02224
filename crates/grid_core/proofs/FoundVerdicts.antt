-- What is found in a state is what the machine of one variant makes of the request.
use Rattle.std.proofs.Common.{◌≡◌, refl, sym, ap, ◌∙◌, subst, ℕ, ℤ, Bool, true, false, List, Option, Some, None}
use Rattle.std.specs.Prelude.{Ok, Err}
use Rattle.grid_level.specs.VoltageLevel.{VoltageLevel}
use Rattle.grid_level.specs.Passing.{positioned, stood}
use Rattle.grid_structure.specs.Sites.{levels, find_level}
use Rattle.grid_states.specs.Rows.{row_at}
use Rattle.grid_connect.specs.declared.ConnectPlan.{ConnectPlan}
use Rattle.grid_connect.specs.declared.ConnectPlan.TheVariants as connects
use Rattle.grid_connect.specs.declared.DisconnectPlan.{DisconnectPlan}
use Rattle.grid_connect.specs.declared.DisconnectPlan.TheVariants as disconnects
use Rattle.grid_connect.specs.Plans.{connect_plan_of, disconnect_plan_of}
use Rattle.grid_busbreaker.specs.Views.{bus_breaker_view_of}
use Rattle.grid_busview.specs.Views.{bus_view_of}
use Rattle.grid_watts.specs.Watts.{level_watts}
use Rattle.grid_islands.specs.Islands.{level_components}
use Rattle.grid_requests.specs.declared.request.Request.{Request}
use Rattle.grid_requests.specs.declared.request.Request.TheVariants as requests
use Rattle.grid_core.specs.declared.reply.Reply.{Reply}
use Rattle.grid_core.specs.declared.reply.Reply.TheVariants as replies
use Rattle.grid_core.specs.declared.reply.Refusal.{Refusal}
use Rattle.grid_core.specs.declared.reply.Refusal.TheVariants as refusals
use Rattle.grid_core.specs.declared.verdict.Verdict.{Verdict}
use Rattle.grid_core.specs.declared.verdict.Verdict.TheVariants as verdicts
use Rattle.grid_core.specs.Solo.{State, solo, site_of_side, level_at, connected, disconnected, with_all_opened}
use Rattle.grid_core.specs.Replies.{events_of}
use Rattle.grid_core.specs.Fitting.{RowsFit}
use Rattle.grid_core.specs.Verdicts.{asks, puts, step_of, put_reply, names_of, IsFound, operating, connect_verdict, disconnect_verdict, plan_verdict}
use Rattle.grid_core.proofs.RequestOutcomes.{connect_refused, disconnect_refused, connect_found, disconnect_found, bus_breaker_reply, bus_reply, components_reply, bus_breaker_nowhere, bus_nowhere, components_nowhere}
use Rattle.grid_core.proofs.PlanPlaces.{connect_places, disconnect_places}
use Rattle.grid_core.proofs.RequestKinds.{refused_events}
use Rattle.std.proofs.lemmas.Option.{slice_get_within}

-- a refusal tells nothing
refused_is : (state : State) (r : Request) (refusal : Refusal) → asks r ≡ true → solo state r ≡ (state, replies.Refused refusal) → IsFound state r (verdicts.Stays (replies.Refused refusal))
unfolding step_of
refused_is state r refusal asking h v = record { asking = asking; made = h; fits = refused_events v r refusal }

-- ---- plans

operating_asks : (id : List ℕ) (side : ℤ) (opens : Bool) → asks (operating id side opens) ≡ true
unfolding asks
operating_asks id side true = refl
operating_asks id side false = refl

operating_refused : (state : State) (id : List ℕ) (side : ℤ) (opens : Bool) (refusal : Refusal) → site_of_side state.structure id side ≡ Err refusal → solo state (operating id side opens) ≡ (state, replies.Refused refusal)
operating_refused state id side true refusal h = disconnect_refused state id side refusal h
operating_refused state id side false refusal h = connect_refused state id side refusal h

-- no terminal stands on the side
pub no_site_is : (state : State) (id : List ℕ) (side : ℤ) (opens : Bool) (refusal : Refusal) → site_of_side state.structure id side ≡ Err refusal → IsFound state (operating id side opens) (verdicts.Stays (replies.Refused refusal))
no_site_is state id side opens refusal h = refused_is state (operating id side opens) refusal (operating_asks id side opens) (operating_refused state id side opens refusal h)

module _ (state : State) (id : List ℕ) (side : ℤ) (at : ℕ × ℕ) (level : VoltageLevel) (fit : RowsFit state.structure state.opened) (h : site_of_side state.structure id side ≡ Ok at) (k : level_at state.structure at.0 ≡ Some level) where
  pub connect_is : (plan : ConnectPlan) → connect_plan_of (positioned level (row_at state.opened at.0)) at.1 ≡ plan → IsFound state (requests.Connect id side) (connect_verdict at.0 plan)
  unfolding asks puts step_of put_reply names_of events_of connected level_at connect_verdict
  connect_is (connects.Close places) planned v = record {
    asking = refl;
    made = connect_found state id side at level h k ∙ ap (connected state at.0 level) planned
        ∙ ap (λ (o : Option VoltageLevel). (with_all_opened state at.0 places false, replies.Closed (names_of o places))) (sym k);
    fits = (refl, slice_get_within (levels state.structure) at.0 level k, connect_places state.structure state.opened at.0 level at.1 places fit k planned);
  }
  connect_is connects.AlreadyConnected planned v = record { asking = refl; made = connect_found state id side at level h k ∙ ap (connected state at.0 level) planned; fits = refl }
  connect_is connects.NoPath planned v = record { asking = refl; made = connect_found state id side at level h k ∙ ap (connected state at.0 level) planned; fits = refl }

  pub disconnect_is : (plan : DisconnectPlan) → disconnect_plan_of (positioned level (row_at state.opened at.0)) at.1 ≡ plan → IsFound state (requests.Disconnect id side) (disconnect_verdict at.0 plan)
  unfolding asks puts step_of put_reply names_of events_of disconnected level_at disconnect_verdict
  disconnect_is (disconnects.Opens places) planned v = record {
    asking = refl;
    made = disconnect_found state id side at level h k ∙ ap (disconnected state at.0 level) planned
        ∙ ap (λ (o : Option VoltageLevel). (with_all_opened state at.0 places true, replies.Opened (names_of o places))) (sym k);
    fits = (refl, slice_get_within (levels state.structure) at.0 level k, disconnect_places state.structure state.opened at.0 level at.1 places fit k planned);
  }
  disconnect_is disconnects.AlreadyDisconnected planned v = record { asking = refl; made = disconnect_found state id side at level h k ∙ ap (disconnected state at.0 level) planned; fits = refl }
  disconnect_is (disconnects.NoBreaker terminal) planned v = record { asking = refl; made = disconnect_found state id side at level h k ∙ ap (disconnected state at.0 level) planned; fits = refl }

  pub operate_is : (opens : Bool) (verdict : Verdict) → verdict ≡ plan_verdict opens at.0 (positioned level (row_at state.opened at.0)) at.1 → IsFound state (operating id side opens) verdict
  operate_is true verdict is = subst (IsFound state (requests.Disconnect id side)) (sym is) (disconnect_is (disconnect_plan_of (positioned level (row_at state.opened at.0)) at.1) refl)
  operate_is false verdict is = subst (IsFound state (requests.Connect id side)) (sym is) (connect_is (connect_plan_of (positioned level (row_at state.opened at.0)) at.1) refl)

-- ---- views

-- no level has the id
module _ (state : State) (id : List ℕ) (none : find_level state.structure id ≡ None) where
  pub bus_breaker_refused : IsFound state (requests.BusBreakerView id) (verdicts.Stays (replies.Refused refusals.NoLevel))
  unfolding asks solo
  bus_breaker_refused = refused_is state (requests.BusBreakerView id) refusals.NoLevel refl (ap (λ (r : Reply). (state, r)) (bus_breaker_nowhere state id none))

  pub bus_refused : IsFound state (requests.BusView id) (verdicts.Stays (replies.Refused refusals.NoLevel))
  unfolding asks solo
  bus_refused = refused_is state (requests.BusView id) refusals.NoLevel refl (ap (λ (r : Reply). (state, r)) (bus_nowhere state id none))

  pub components_refused : IsFound state (requests.Components id) (verdicts.Stays (replies.Refused refusals.NoLevel))
  unfolding asks solo
  components_refused = refused_is state (requests.Components id) refusals.NoLevel refl (ap (λ (r : Reply). (state, r)) (components_nowhere state id none))

module _ (state : State) (id : List ℕ) (place : ℕ) (level : VoltageLevel) (h : find_level state.structure id ≡ Some place) (k : level_at state.structure place ≡ Some level) where
  pub bus_breaker_is : IsFound state (requests.BusBreakerView id) (verdicts.Stays (replies.BusBreaker (bus_breaker_view_of (stood level (row_at state.opened place) (row_at state.retained place)))))
  unfolding asks step_of solo events_of
  bus_breaker_is v = record { asking = refl; made = ap (λ (r : Reply). (state, r)) (bus_breaker_reply state id place level h k); fits = refl }

  pub bus_is : IsFound state (requests.BusView id) (verdicts.Stays (replies.Bus (bus_view_of (positioned level (row_at state.opened place)) (level_watts state.powers level))))
  unfolding asks step_of solo events_of
  bus_is v = record { asking = refl; made = ap (λ (r : Reply). (state, r)) (bus_reply state id place level h k); fits = refl }

  pub components_is : IsFound state (requests.Components id) (verdicts.Stays (replies.Components (level_components state.structure state.opened state.retained place)))
  unfolding asks step_of solo events_of
  components_is v = record { asking = refl; made = ap (λ (r : Reply). (state, r)) (components_reply state id place level h k); fits = refl }
