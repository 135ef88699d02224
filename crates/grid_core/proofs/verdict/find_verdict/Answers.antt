use Rattle.std.proofs.Common.{sym, ap, ◌∙◌, subst, rules}
use Rattle.std.proofs.lemmas.Int.{to_z-of_z}
use mir.Syntax.{w64}
use Rattle.grid_requests.specs.declared.request.Request.{Request}
use Rattle.grid_requests.specs.declared.request.Request.TheVariants as requests
use Rattle.grid_core.specs.Solo.{state_seen}
use Rattle.grid_core.specs.Verdicts.{IsVerdict}
use Rattle.grid_core.proofs.MachineSteps.{each_ok}
use Rattle.grid_core.proofs.verdict.find_verdict.Goals as goal

pub returns-in-Connect-clause-found : goal.returns-in-Connect-clause-found
returns-in-Connect-clause-found c =
    each_ok c.operate_found.result c.operate_found.ensures.found
    (λ verdict is powers listed v. subst (λ (r : Request). IsVerdict (state_seen c.args.structure.now c.args.states.now.opened c.args.states.now.retained powers) v r verdict) (c.to_connect-operated.ensures ∙ sym (c.in-Connect.is ∙ ap (requests.Connect c.in-Connect.id) (sym (to_z-of_z w64 c.in-Connect.side (search rules))))) (is c.args.states.now.retained powers v))

pub returns-in-Disconnect-clause-found : goal.returns-in-Disconnect-clause-found
returns-in-Disconnect-clause-found c =
    each_ok c.operate_found-in-Disconnect.result c.operate_found-in-Disconnect.ensures.found
    (λ verdict is powers listed v. subst (λ (r : Request). IsVerdict (state_seen c.args.structure.now c.args.states.now.opened c.args.states.now.retained powers) v r verdict) (c.to_disconnect-operated.ensures ∙ sym (c.in-Disconnect.is ∙ ap (requests.Disconnect c.in-Disconnect.id) (sym (to_z-of_z w64 c.in-Disconnect.side (search rules))))) (is c.args.states.now.retained powers v))

pub returns-in-BusView-clause-found : goal.returns-in-BusView-clause-found
returns-in-BusView-clause-found c =
    each_ok c.bus_verdict.result c.bus_verdict.ensures.found
    (λ verdict is powers listed v. subst (λ (r : Request). IsVerdict (state_seen c.args.structure.now c.args.states.now.opened c.args.states.now.retained powers) v r verdict) (sym c.in-BusView.is) (is c.args.states.now.retained powers listed v))

pub returns-in-Components-clause-found : goal.returns-in-Components-clause-found
returns-in-Components-clause-found c =
    each_ok c.components_verdict.result c.components_verdict.ensures.found
    (λ verdict is powers listed v. subst (λ (r : Request). IsVerdict (state_seen c.args.structure.now c.args.states.now.opened c.args.states.now.retained powers) v r verdict) (sym c.in-Components.is) (is c.args.states.now.retained powers v))

pub returns-in-BusBreakerView-clause-found : goal.returns-in-BusBreakerView-clause-found
returns-in-BusBreakerView-clause-found c =
    each_ok c.bus_breaker_verdict.result c.bus_breaker_verdict.ensures.found
    (λ verdict is powers listed v. subst (λ (r : Request). IsVerdict (state_seen c.args.structure.now c.args.states.now.opened c.args.states.now.retained powers) v r verdict) (sym c.in-BusBreakerView.is) (is powers v))
