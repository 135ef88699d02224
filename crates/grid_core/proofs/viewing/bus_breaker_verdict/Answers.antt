use Rattle.std.specs.Prelude.{IfSome}
use Rattle.std.proofs.Common.{sym, ap, ◌∙◌, subst, length, List, Bool}
use Rattle.grid_level.specs.Passing.{stood}
use Rattle.grid_states.specs.Rows.{row_at}
use Rattle.grid_busbreaker.specs.declared.BusBreakerView.{BusBreakerView}
use Rattle.grid_busbreaker.specs.Views.{bus_breaker_view_of}
use Rattle.grid_requests.specs.declared.request.Request.TheVariants as requests
use Rattle.grid_core.specs.declared.reply.Reply.TheVariants as replies
use Rattle.grid_core.specs.declared.verdict.Verdict.TheVariants as verdicts
use Rattle.grid_core.specs.Solo.{state_seen, level_at}
use Rattle.grid_core.specs.Verdicts.{IsVerdict}
use Rattle.grid_core.proofs.VariantViews.{fits_at}
use Rattle.grid_core.proofs.FoundVerdicts.{bus_breaker_refused, bus_breaker_is}
use Rattle.grid_core.specs.Kept.{IsKeptLevel}
use Rattle.grid_core.proofs.viewing.bus_breaker_verdict.Goals as goal
use Rattle.grid_core.proofs.viewing.bus_breaker_verdict.Goals.{In-Some-2}

-- the level that is kept
kept_is : (c : In-Some-2) → IsKeptLevel c.args.structure.now c.args.states.now c.in-Some.place c.keep.new.self.bench c.in-Some-2.level
kept_is c = subst (λ o. IfSome o (IsKeptLevel c.args.structure.now c.args.states.now c.in-Some.place c.keep.new.self.bench)) c.in-Some-2.is c.in_ok-level.ensures.kept

pub returns-in-None-clause-found : goal.returns-in-None-clause-found
returns-in-None-clause-found c powers = bus_breaker_refused (state_seen c.args.structure.now c.args.states.now.opened c.args.states.now.retained powers) c.args.id.now (sym c.in-None.ensures.place)

pub opened_row-opened-requires : goal.opened_row-opened-requires
opened_row-opened-requires c = (fits_at c.args.structure.now c.args.states.now.opened c.in-Some.place c.level-found.result.now c.requires.opened c.level-found.ensures).0

pub retained_row-retained-requires : goal.retained_row-retained-requires
retained_row-retained-requires c = (fits_at c.args.structure.now c.args.states.now.opened c.in-Some.place c.level-found.result.now c.requires.opened c.level-found.ensures).0

pub bus_breaker_view-requires-clause-opened : goal.bus_breaker_view-requires-clause-opened
bus_breaker_view-requires-clause-opened c = ap length c.opened_row-opened.ensures ∙ (fits_at c.args.structure.now c.args.states.now.opened c.in-Some.place c.in-Some-2.level c.requires.opened (kept_is (goal.at.bus_breaker_view-requires-clause-opened c).In-Some-2).there).1

pub bus_breaker_view-requires-clause-retained : goal.bus_breaker_view-requires-clause-retained
bus_breaker_view-requires-clause-retained c = ap length c.retained_row-retained.ensures ∙ (fits_at c.args.structure.now c.args.states.now.retained c.in-Some.place c.in-Some-2.level c.requires.retained (kept_is (goal.at.bus_breaker_view-requires-clause-retained c).In-Some-2).there).1

pub bus_breaker_view-requires-2-clause-states : goal.bus_breaker_view-requires-2-clause-states
bus_breaker_view-requires-2-clause-states c = ap length c.opened_row-opened.ensures ∙ (fits_at c.args.structure.now c.args.states.now.opened c.in-Some.place c.level-found.result.now c.requires.opened c.level-found.ensures).1

pub bus_breaker_view-requires-2-clause-retained : goal.bus_breaker_view-requires-2-clause-retained
bus_breaker_view-requires-2-clause-retained c = ap length c.retained_row-retained.ensures ∙ (fits_at c.args.structure.now c.args.states.now.retained c.in-Some.place c.level-found.result.now c.requires.retained c.level-found.ensures).1

pub returns-clause-found : goal.returns-clause-found
unfolding level_at
returns-clause-found c powers v =
    let state = state_seen c.args.structure.now c.args.states.now.opened c.args.states.now.retained powers in
    let level = c.level-found.result.now in
    subst (λ (z : BusBreakerView). IsVerdict state v (requests.BusBreakerView c.args.id.now) (verdicts.Stays (replies.BusBreaker z)))
    (sym (c.in_ok-shared.ensures ∙ c.in_ok-view.ensures ∙ ap (λ (row : List Bool). bus_breaker_view_of (stood level row c.retained_row-retained.result.now)) c.opened_row-opened.ensures ∙ ap (λ (row : List Bool). bus_breaker_view_of (stood level (row_at state.opened c.in-Some.place) row)) c.retained_row-retained.ensures))
    (bus_breaker_is state c.args.id.now c.in-Some.place level (sym c.in-Some.ensures.place) c.level-found.ensures v)

pub returns-in-Some-2-clause-found : goal.returns-in-Some-2-clause-found
unfolding level_at
returns-in-Some-2-clause-found c powers v =
    let state = state_seen c.args.structure.now c.args.states.now.opened c.args.states.now.retained powers in
    let level = c.in-Some-2.level in
    subst (λ (z : BusBreakerView). IsVerdict state v (requests.BusBreakerView c.args.id.now) (verdicts.Stays (replies.BusBreaker z)))
    (sym (c.in_ok-made.ensures.view ∙ ap (λ (row : List Bool). bus_breaker_view_of (stood level row c.retained_row-retained.result.now)) c.opened_row-opened.ensures ∙ ap (λ (row : List Bool). bus_breaker_view_of (stood level (row_at state.opened c.in-Some.place) row)) c.retained_row-retained.ensures))
    (bus_breaker_is state c.args.id.now c.in-Some.place level (sym c.in-Some.ensures.place) (kept_is (goal.at.returns-in-Some-2-clause-found c).In-Some-2).there v)
