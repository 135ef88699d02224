use Rattle.std.specs.Prelude.{IfSome}
use Rattle.std.proofs.Common.{◌≡◌, sym, ap, ◌∙◌, subst, length, List, Bool}
use Rattle.std.proofs.lemmas.List.{length-map}
use Rattle.grid_level.specs.Passing.{positioned}
use Rattle.grid_busview.specs.declared.BusView.{BusView}
use Rattle.grid_busview.specs.Views.{bus_view_of}
use Rattle.grid_watts.specs.Watts.{level_watts}
use Rattle.grid_requests.specs.declared.request.Request.TheVariants as requests
use Rattle.grid_core.specs.declared.reply.Reply.TheVariants as replies
use Rattle.grid_core.specs.declared.verdict.Verdict.TheVariants as verdicts
use Rattle.grid_core.specs.Solo.{state_seen, level_at}
use Rattle.grid_core.specs.Verdicts.{IsVerdict}
use Rattle.grid_states.specs.Rows.{pairs_at}
use Rattle.grid_core.proofs.VariantViews.{fits_at, row_listed}
use Rattle.grid_core.proofs.FoundVerdicts.{bus_refused, bus_is}
use Rattle.grid_lemmas.proofs.Options.{some_is}
use Rattle.grid_level.specs.VoltageLevel.{VoltageLevel}
use Rattle.grid_core.specs.Kept.{IsKeptLevel}
use Rattle.grid_core.proofs.viewing.bus_verdict.Goals as goal
use Rattle.grid_core.proofs.viewing.bus_verdict.Goals.{In-Some-2}

-- the level that is kept, which is the one that was found
kept_is : (c : In-Some-2) → IsKeptLevel c.args.structure.now c.args.states.now c.in-Some.place c.keep.new.self.bench c.in-Some-2.level
kept_is c = subst (λ o. IfSome o (IsKeptLevel c.args.structure.now c.args.states.now c.in-Some.place c.keep.new.self.bench)) c.in-Some-2.is c.in_ok-level.ensures.kept

same_level : (c : In-Some-2) → c.level-found.result.now ≡ c.in-Some-2.level
same_level c = some_is {X = VoltageLevel} c.level-found.result.now c.in-Some-2.level (sym c.level-found.ensures ∙ (kept_is c).there)

pub returns-in-None-clause-found : goal.returns-in-None-clause-found
returns-in-None-clause-found c retained powers listed = bus_refused (state_seen c.args.structure.now c.args.states.now.opened retained powers) c.args.id.now (sym c.in-None.ensures.place)

pub opened_row-opened-requires : goal.opened_row-opened-requires
opened_row-opened-requires c = (fits_at c.args.structure.now c.args.states.now.opened c.in-Some.place c.level-found.result.now c.requires.opened c.level-found.ensures).0

pub retained_row-retained-requires : goal.retained_row-retained-requires
retained_row-retained-requires c = (fits_at c.args.structure.now c.args.states.now.opened c.in-Some.place c.level-found.result.now c.requires.opened c.level-found.ensures).0

pub watts_row-requires : goal.watts_row-requires
watts_row-requires c = (fits_at c.args.structure.now c.args.states.now.opened c.in-Some.place c.level-found.result.now c.requires.opened c.level-found.ensures).0

pub bus_view-requires-clause-opened : goal.bus_view-requires-clause-opened
bus_view-requires-clause-opened c =
    ap length c.opened_row-opened.ensures ∙ (fits_at c.args.structure.now c.args.states.now.opened c.in-Some.place c.in-Some-2.level c.requires.opened (kept_is (goal.at.bus_view-requires-clause-opened c).In-Some-2).there).1

pub bus_view-requires-clause-powers : goal.bus_view-requires-clause-powers
unfolding level_watts
bus_view-requires-clause-powers c =
    let told = c.watts_row.ensures.pairs ∙ ap (λ rows. pairs_at rows c.in-Some.place) c.requires.listed.1 ∙ row_listed c.args.structure.now c.requires.listed.0 c.in-Some.place c.level-found.result.now c.level-found.ensures in
    subst (λ (l : VoltageLevel). length c.slice.result.now ≡ length l.placed) (same_level (goal.at.bus_view-requires-clause-powers c).In-Some-2)
    (ap length (c.slice.ensures ∙ c.in_ok-watts.ensures c.requires.listed.0 told) ∙ length-map c.level-found.result.now.placed _)

pub bus_view-requires-2-clause-states : goal.bus_view-requires-2-clause-states
bus_view-requires-2-clause-states c = ap length c.opened_row-opened.ensures ∙ (fits_at c.args.structure.now c.args.states.now.opened c.in-Some.place c.level-found.result.now c.requires.opened c.level-found.ensures).1

pub bus_view-requires-2-clause-powers : goal.bus_view-requires-2-clause-powers
unfolding level_watts
bus_view-requires-2-clause-powers c =
    let told = c.watts_row.ensures.pairs ∙ ap (λ rows. pairs_at rows c.in-Some.place) c.requires.listed.1 ∙ row_listed c.args.structure.now c.requires.listed.0 c.in-Some.place c.level-found.result.now c.level-found.ensures in
    ap length (c.slice-2.ensures ∙ c.in_ok-watts.ensures c.requires.listed.0 told) ∙ length-map c.level-found.result.now.placed _

pub returns-clause-found : goal.returns-clause-found
unfolding level_at
returns-clause-found c retained powers listed v =
    let state = state_seen c.args.structure.now c.args.states.now.opened retained powers in
    let level = c.level-found.result.now in
    let told = c.watts_row.ensures.pairs ∙ ap (λ rows. pairs_at rows c.in-Some.place) listed ∙ row_listed c.args.structure.now powers c.in-Some.place level c.level-found.ensures in
    subst (λ (z : BusView). IsVerdict state v (requests.BusView c.args.id.now) (verdicts.Stays (replies.Bus z)))
    (sym (c.in_ok-shared.ensures ∙ c.in_ok-view.ensures ∙ ap (bus_view_of (positioned level c.opened_row-opened.result.now)) (c.slice-2.ensures ∙ c.in_ok-watts.ensures powers told) ∙ ap (λ (row : List Bool). bus_view_of (positioned level row) (level_watts powers level)) c.opened_row-opened.ensures))
    (bus_is state c.args.id.now c.in-Some.place level (sym c.in-Some.ensures.place) c.level-found.ensures v)

pub returns-in-Some-2-clause-found : goal.returns-in-Some-2-clause-found
unfolding level_at
returns-in-Some-2-clause-found c retained powers listed v =
    let state = state_seen c.args.structure.now c.args.states.now.opened retained powers in
    let level = c.in-Some-2.level in
    let at = goal.at.returns-in-Some-2-clause-found c in
    let told = c.watts_row.ensures.pairs ∙ ap (λ rows. pairs_at rows c.in-Some.place) listed ∙ row_listed c.args.structure.now powers c.in-Some.place c.level-found.result.now c.level-found.ensures in
    let watts = c.slice.ensures ∙ c.in_ok-watts.ensures powers told ∙ ap (level_watts powers) (same_level at.In-Some-2) in
    subst (λ (z : BusView). IsVerdict state v (requests.BusView c.args.id.now) (verdicts.Stays (replies.Bus z)))
    (sym (c.in_ok-made.ensures.view ∙ ap (bus_view_of (positioned level c.opened_row-opened.result.now)) watts ∙ ap (λ (row : List Bool). bus_view_of (positioned level row) (level_watts powers level)) c.opened_row-opened.ensures))
    (bus_is state c.args.id.now c.in-Some.place level (sym c.in-Some.ensures.place) (kept_is at.In-Some-2).there v)
