use Rattle.std.proofs.Common.{sym, ◌∙◌, subst, List}
use Rattle.grid_islands.specs.declared.BusComponent.{BusComponent}
use Rattle.grid_requests.specs.declared.request.Request.TheVariants as requests
use Rattle.grid_islands.proofs.LevelComponents.{level_exists}
use Rattle.grid_core.specs.declared.reply.Reply.TheVariants as replies
use Rattle.grid_core.specs.declared.verdict.Verdict.TheVariants as verdicts
use Rattle.grid_core.specs.Solo.{state_seen, level_at}
use Rattle.grid_core.specs.Verdicts.{IsVerdict}
use Rattle.grid_core.proofs.VariantViews.{flags_fit}
use Rattle.grid_core.proofs.Ranges.{rows_of_levels}
use Rattle.grid_core.proofs.FoundVerdicts.{components_refused, components_is}
use Rattle.grid_core.proofs.viewing.components_verdict.Goals as goal

pub returns-in-None-clause-found : goal.returns-in-None-clause-found
returns-in-None-clause-found c retained powers = components_refused (state_seen c.args.structure.now c.args.states.now.opened retained powers) c.args.id.now (sym c.in-None.ensures.place)

pub level_components-requires-clause-rows : goal.level_components-requires-clause-rows
level_components-requires-clause-rows c = rows_of_levels c.args.structure.now c.args.states.now.opened c.requires.rows

pub level_components-requires-clause-flags : goal.level_components-requires-clause-flags
level_components-requires-clause-flags c = flags_fit c.args.structure.now c.args.states.now.opened c.requires.rows

pub returns-clause-found : goal.returns-clause-found
unfolding level_at
returns-clause-found c retained powers v =
    let state = state_seen c.args.structure.now c.args.states.now.opened retained powers in
    let level = level_exists c.args.structure.now c.in-Some.place c.in-Some.ensures.below in
    subst (λ (z : List BusComponent). IsVerdict state v (requests.Components c.args.id.now) (verdicts.Stays (replies.Components z))) (sym (c.in_ok-shared.ensures ∙ c.in_ok-list.ensures.list retained))
    (components_is state c.args.id.now c.in-Some.place level.0 (sym c.in-Some.ensures.place) level.1 v)
