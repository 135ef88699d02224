-- A value that is computed on the present base is what the machine of one variant makes of the request.
use Rattle.std.proofs.Common.{◌≡◌, refl, sym, ap, ◌∙◌, subst, ℕ, ℤ, true, false, List, Option, Some, None}
use Rattle.std.specs.Prelude.{Result, Ok, Err, option_map}
use Rattle.std.proofs.lemmas.Option.{slice_get_within}
use Rattle.grid_lemmas.proofs.Options.{some_is}
use Rattle.grid_level.specs.VoltageLevel.{VoltageLevel}
use Rattle.grid_level.specs.Passing.{positioned, stood}
use Rattle.grid_structure.specs.Sites.{levels, find_level}
use Rattle.grid_states.specs.Rows.{row_at}
use Rattle.grid_connect.specs.declared.ConnectPlan.{ConnectPlan}
use Rattle.grid_connect.specs.declared.ConnectPlan.TheVariants as connects
use Rattle.grid_connect.specs.declared.DisconnectPlan.{DisconnectPlan}
use Rattle.grid_connect.specs.declared.DisconnectPlan.TheVariants as disconnects
use Rattle.grid_connect.specs.Plans.{connect_plan_of, disconnect_plan_of}
use Rattle.grid_busbreaker.specs.Views.{bus_breaker_view_of}
use Rattle.grid_busview.specs.Views.{bus_view_of}
use Rattle.grid_watts.specs.Watts.{level_watts}
use Rattle.grid_bench.specs.declared.base.BaseLevel.{BaseLevel}
use Rattle.grid_bench.specs.declared.Task.TheVariants as tasks
use Rattle.grid_bench.specs.declared.Computed.{Computed}
use Rattle.grid_bench.specs.Bases.{standing, placed_open}
use Rattle.grid_bench.specs.Tasks.{computed_of}
use Rattle.grid_requests.specs.declared.request.Request.{Request}
use Rattle.grid_requests.specs.declared.request.Request.TheVariants as requests
use Rattle.grid_core.specs.declared.reply.Reply.{Reply}
use Rattle.grid_core.specs.declared.reply.Reply.TheVariants as replies
use Rattle.grid_core.specs.declared.reply.Refusal.{Refusal}
use Rattle.grid_core.specs.declared.verdict.Verdict.TheVariants as verdicts
use Rattle.grid_core.specs.Solo.{State, solo, site_of_side, level_at, connected, disconnected, with_all_opened, viewed, bus_view_at, stood_at}
use Rattle.grid_core.specs.Replies.{events_of}
use Rattle.grid_core.specs.Verdicts.{asks, puts, step_of, put_reply, names_of, IsVerdict, connect_verdict, disconnect_verdict}
use Rattle.grid_core.specs.Fitting.{StateFits}
use Rattle.grid_core.proofs.RequestOutcomes.{connect_found, disconnect_found, bus_breaker_reply, found_level}
use Rattle.grid_core.proofs.PlanPlaces.{connect_places, disconnect_places}
use Rattle.grid_board.specs.declared.tasks.Question.{Question}
use Rattle.grid_board.specs.Questions.{part_with, part_of, base_of, about, asked_of, at_site, verdict_of}
use Rattle.grid_board.proofs.BaseLevels.{level_of_base}

-- ---- views

bus_breaker_verdict : (state : State) (v id : List ℕ) (place : ℕ) (level : VoltageLevel) → find_level state.structure id ≡ Some place → level_at state.structure place ≡ Some level
    → IsVerdict state v (requests.BusBreakerView id) (verdicts.Stays (replies.BusBreaker (bus_breaker_view_of (stood level (row_at state.opened place) (row_at state.retained place)))))
unfolding asks step_of solo events_of
bus_breaker_verdict state v id place level h k =
    record { asking = refl; made = ap (λ (r : Reply). (state, r)) (bus_breaker_reply state id place level h k); fits = refl }

bus_verdict : (state : State) (v id : List ℕ) (place : ℕ) (level : VoltageLevel) → find_level state.structure id ≡ Some place → level_at state.structure place ≡ Some level
    → IsVerdict state v (requests.BusView id) (verdicts.Stays (replies.Bus (bus_view_of (stood level (row_at state.opened place) (row_at state.retained place)) (level_watts state.powers level))))
unfolding asks step_of solo events_of bus_view_at stood_at viewed
bus_verdict state v id place level h k = record {
  asking = refl;
  made = ap (λ (o : Option (ℕ × VoltageLevel)). (state, viewed (λ place lists. replies.Bus (bus_view_at state place lists)) o)) (found_level state.structure id place level h k);
  fits = refl;
}

-- ---- plans

module _ (state : State) (v id : List ℕ) (side : ℤ) (at : ℕ × ℕ) (level : VoltageLevel) (fits : StateFits state) (h : site_of_side state.structure id side ≡ Ok at) (k : level_at state.structure at.0 ≡ Some level) where
  connect_is : (plan : ConnectPlan) → connect_plan_of (positioned level (row_at state.opened at.0)) at.1 ≡ plan → IsVerdict state v (requests.Connect id side) (connect_verdict at.0 plan)
  unfolding asks puts step_of put_reply names_of events_of connected level_at connect_verdict
  connect_is (connects.Close places) planned = record {
    asking = refl;
    made = connect_found state id side at level h k ∙ ap (connected state at.0 level) planned
        ∙ ap (λ (o : Option VoltageLevel). (with_all_opened state at.0 places false, replies.Closed (names_of o places))) (sym k);
    fits = (refl, slice_get_within (levels state.structure) at.0 level k, connect_places state.structure state.opened at.0 level at.1 places fits.opened k planned);
  }
  connect_is connects.AlreadyConnected planned = record { asking = refl; made = connect_found state id side at level h k ∙ ap (connected state at.0 level) planned; fits = refl }
  connect_is connects.NoPath planned = record { asking = refl; made = connect_found state id side at level h k ∙ ap (connected state at.0 level) planned; fits = refl }

  disconnect_is : (plan : DisconnectPlan) → disconnect_plan_of (positioned level (row_at state.opened at.0)) at.1 ≡ plan → IsVerdict state v (requests.Disconnect id side) (disconnect_verdict at.0 plan)
  unfolding asks puts step_of put_reply names_of events_of disconnected level_at disconnect_verdict
  disconnect_is (disconnects.Opens places) planned = record {
    asking = refl;
    made = disconnect_found state id side at level h k ∙ ap (disconnected state at.0 level) planned
        ∙ ap (λ (o : Option VoltageLevel). (with_all_opened state at.0 places true, replies.Opened (names_of o places))) (sym k);
    fits = (refl, slice_get_within (levels state.structure) at.0 level k, disconnect_places state.structure state.opened at.0 level at.1 places fits.opened k planned);
  }
  disconnect_is disconnects.AlreadyDisconnected planned = record { asking = refl; made = disconnect_found state id side at level h k ∙ ap (disconnected state at.0 level) planned; fits = refl }
  disconnect_is (disconnects.NoBreaker terminal) planned = record { asking = refl; made = disconnect_found state id side at level h k ∙ ap (disconnected state at.0 level) planned; fits = refl }

-- ---- every request

-- what is so of a question on the level that it names is so of an equal one on its base
carried : (P : ℕ → Computed → Type 0) (state : State) (own asked : Question) (base : BaseLevel) → own ≡ asked → base_of state asked.level ≡ Some base
    → ((level : VoltageLevel) → level_at state.structure own.level ≡ Some level → P own.level (computed_of (part_of state own.level level) own.task)) → P asked.level (computed_of base asked.task)
unfolding level_at
carried P state own asked base same based each =
    let of = level_of_base state own.level base (subst (λ (q : Question). base_of state q.level ≡ Some base) (sym same) based) in
    subst (λ (q : Question). P q.level (computed_of base q.task)) same (subst (λ b. P own.level (computed_of b own.task)) of.1.1 (each of.0 of.1.0))

module _ (state : State) (v : List ℕ) (asked : Question) (base : BaseLevel) (fits : StateFits state) (based : base_of state asked.level ≡ Some base) where
  bus_breaker_answers : (id : List ℕ) (place : ℕ) → find_level state.structure id ≡ Some place → about tasks.BusBreakerView place ≡ asked → IsVerdict state v (requests.BusBreakerView id) (verdict_of asked.level (computed_of base asked.task))
  unfolding computed_of standing part_of part_with verdict_of
  bus_breaker_answers id place h same =
      carried (λ n x. IsVerdict state v (requests.BusBreakerView id) (verdict_of n x)) state (about tasks.BusBreakerView place) asked base same based (λ level k. bus_breaker_verdict state v id place level h k)

  bus_answers : (id : List ℕ) (place : ℕ) → find_level state.structure id ≡ Some place → about tasks.BusView place ≡ asked → IsVerdict state v (requests.BusView id) (verdict_of asked.level (computed_of base asked.task))
  unfolding computed_of standing part_of part_with verdict_of
  bus_answers id place h same =
      carried (λ n x. IsVerdict state v (requests.BusView id) (verdict_of n x)) state (about tasks.BusView place) asked base same based (λ level k. bus_verdict state v id place level h k)

  connect_answers : (id : List ℕ) (side : ℤ) (at : ℕ × ℕ) → site_of_side state.structure id side ≡ Ok at → about (tasks.Connect at.1) at.0 ≡ asked → IsVerdict state v (requests.Connect id side) (verdict_of asked.level (computed_of base asked.task))
  unfolding computed_of placed_open part_of part_with verdict_of
  connect_answers id side at h same =
      carried (λ n x. IsVerdict state v (requests.Connect id side) (verdict_of n x)) state (about (tasks.Connect at.1) at.0) asked base same based (λ level k. connect_is state v id side at level fits h k _ refl)

  disconnect_answers : (id : List ℕ) (side : ℤ) (at : ℕ × ℕ) → site_of_side state.structure id side ≡ Ok at → about (tasks.Disconnect at.1) at.0 ≡ asked
      → IsVerdict state v (requests.Disconnect id side) (verdict_of asked.level (computed_of base asked.task))
  unfolding computed_of placed_open part_of part_with verdict_of
  disconnect_answers id side at h same =
      carried (λ n x. IsVerdict state v (requests.Disconnect id side) (verdict_of n x)) state (about (tasks.Disconnect at.1) at.0) asked base same based (λ level k. disconnect_is state v id side at level fits h k _ refl)

  -- of every request
  pub answers : (request : Request) → asked_of state.structure request ≡ Some asked → IsVerdict state v request (verdict_of asked.level (computed_of base asked.task))
  unfolding asked_of at_site
  answers (requests.BusBreakerView id) is = by (find_level state.structure id) refl is
    where
      by : (o : Option ℕ) → find_level state.structure id ≡ o → option_map (about tasks.BusBreakerView) o ≡ Some asked → IsVerdict state v (requests.BusBreakerView id) (verdict_of asked.level (computed_of base asked.task))
      by (Some place) h e = bus_breaker_answers id place h (some_is (about tasks.BusBreakerView place) asked e)
      by None h e = cc
  answers (requests.BusView id) is = by (find_level state.structure id) refl is
    where
      by : (o : Option ℕ) → find_level state.structure id ≡ o → option_map (about tasks.BusView) o ≡ Some asked → IsVerdict state v (requests.BusView id) (verdict_of asked.level (computed_of base asked.task))
      by (Some place) h e = bus_answers id place h (some_is (about tasks.BusView place) asked e)
      by None h e = cc
  answers (requests.Connect id side) is = by (site_of_side state.structure id side) refl is
    where
      by : (o : Result (ℕ × ℕ) Refusal) → site_of_side state.structure id side ≡ o → at_site tasks.Connect o ≡ Some asked → IsVerdict state v (requests.Connect id side) (verdict_of asked.level (computed_of base asked.task))
      by (Ok at) h e = connect_answers id side at h (some_is (about (tasks.Connect at.1) at.0) asked e)
      by (Err refusal) h e = cc
  answers (requests.Disconnect id side) is = by (site_of_side state.structure id side) refl is
    where
      by : (o : Result (ℕ × ℕ) Refusal) → site_of_side state.structure id side ≡ o → at_site tasks.Disconnect o ≡ Some asked → IsVerdict state v (requests.Disconnect id side) (verdict_of asked.level (computed_of base asked.task))
      by (Ok at) h e = disconnect_answers id side at h (some_is (about (tasks.Disconnect at.1) at.0) asked e)
      by (Err refusal) h e = cc
  answers other is = cc
