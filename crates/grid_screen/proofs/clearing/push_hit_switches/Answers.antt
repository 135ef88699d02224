use Rattle.std.proofs.Common.{sym, ap, ◌∙◌, ◌++◌, ◌∷◌, []}
use Rattle.std.specs.Prelude.{filter}
use Rattle.std.proofs.lemmas.List.{append-nil, take_all}
use Rattle.grid_screen.specs.Outages.{is_switch}
use Rattle.grid_screen.proofs.Clearings.{filter_more, filter_skipped}
use Rattle.grid_screen.proofs.clearing.push_hit_switches.Goals as goal

pub loop-id-init : goal.loop-id-init
loop-id-init c = sym (append-nil c.args.ids.now)

pub loop-id-preserved-then-not-is_switch : goal.loop-id-preserved-then-not-is_switch
loop-id-preserved-then-not-is_switch c =
    filter_skipped (is_switch c.args.structure.now) c.args.hit.now c.loop-id.id-index c.id-item.result c.loop-id-test.true c.id-item.is c.args.ids.now c.loop-id.ids (sym c.is_switch.ensures ∙ c.if-not-is_switch.true) c.loop-id.invariant

pub loop-id-preserved : goal.loop-id-preserved
loop-id-preserved c =
    filter_more (is_switch c.args.structure.now) c.args.hit.now c.loop-id.id-index c.id-item.result c.loop-id-test.true c.id-item.is c.args.ids.now c.loop-id.ids _ (sym c.is_switch.ensures ∙ c.if-not-is_switch.false) c.loop-id.invariant
    (c.in_ok-push.ensures.ok ∙ ap (λ z. c.loop-id.ids ++ z ∷ []) c.in_ok-copy.ensures)

pub returns : goal.returns
returns c = c.loop-id.invariant ∙ ap (λ z. c.args.ids.now ++ filter (is_switch c.args.structure.now) z) (take_all c.loop-id.id-index c.args.hit.now c.loop-id-test.false)
