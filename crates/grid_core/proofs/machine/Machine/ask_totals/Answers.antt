use Rattle.std.proofs.Common.{refl, ap, ◌∙◌, rules, [], to_z, of_z}
use Rattle.std.proofs.lemmas.Int.{to_z-of_z}
use mir.Syntax.{w128}
use mir.Val.{SFits}
use Rattle.grid_core.specs.declared.reply.Reply.TheVariants.{Totals}
use Rattle.grid_core.specs.Made.{made_of}
use Rattle.grid_core.proofs.MachineSteps.{each_ok}
use Rattle.grid_core.proofs.RequestKinds.{of_variant}
use Rattle.grid_core.proofs.VariantSteps.{stands_slot, dead_made}
use Rattle.grid_requests.specs.declared.request.Request.TheVariants as requests
use Rattle.grid_core.proofs.PowerRequests.{totals_made}
use Rattle.grid_core.proofs.machine.Machine.ask_totals.Goals as goal

pub returns-in-None : goal.returns-in-None
unfolding of_variant
returns-in-None c = each_ok c.answer.result c.answer.ensures (λ made is. dead_made c.args.self.now c.args.worker c.args.variant.now requests.Totals made refl c.requires.works c.in-None.ensures is)

pub states-states-requires : goal.states-states-requires
states-states-requires c = stands_slot c.args.self.now c.args.variant.now c.in-Some.slot c.in-Some.ensures

pub returns : goal.returns
returns c =
    let load_fits : SFits w128 c.load-load.result = search rules in
    let generation_fits : SFits w128 c.generation-generation.result = search rules in
    each_ok c.answer-2.result c.answer-2.ensures
    (λ made is. totals_made c.args.self.now c.args.worker c.in-Some.slot c.args.variant.now c.requires.works c.in-Some.ensures c.states-states.result.now made c.states-states.ensures
    (is ∙ ap (λ z. made_of (Totals z (to_z w128 (of_z w128 c.generation-generation.result))) []) (to_z-of_z w128 c.load-load.result load_fits) ∙ ap (λ z. made_of (Totals c.load-load.result z) []) (to_z-of_z w128 c.generation-generation.result generation_fits)
    ∙ ap (λ z. made_of (Totals z c.generation-generation.result) []) c.load-load.ensures ∙ ap (λ z. made_of (Totals c.states-states.result.now.load z) []) c.generation-generation.ensures))
