use Rattle.std.proofs.Common.{sym, ap, ◌∙◌, ◌++◌, ◌∷◌, []}
use Rattle.std.proofs.lemmas.List.{append-nil, take_all}
use Rattle.grid_level.specs.declared.Switch.{Switch}
use Rattle.grid_level.specs.Passing.{is_operable}
use Rattle.grid_contingencies.specs.Pieces.{breakers_of}
use Rattle.grid_contingencies.proofs.ItemLoops.{passed_more, passed_left, item_at}
use Rattle.grid_contingencies.proofs.listing.push_breakers.Goals as goal

pub loop-switch-init : goal.loop-switch-init
unfolding breakers_of
loop-switch-init c = sym (append-nil c.args.ids.now)

pub loop-switch-preserved-then-not-is_operable : goal.loop-switch-preserved-then-not-is_operable
unfolding breakers_of
loop-switch-preserved-then-not-is_operable c =
    passed_left (λ (s : Switch). s.id) is_operable c.args.switches.now c.loop-switch.switch-index c.switch-item.result (item_at c.args.switches.now c.loop-switch.switch-index c.switch-item.result c.loop-switch-test.true c.switch-item.is)
    c.args.ids.now c.loop-switch.ids (sym c.is_operable.ensures ∙ c.if-not-is_operable.true) c.loop-switch.invariant

pub loop-switch-preserved : goal.loop-switch-preserved
unfolding breakers_of
loop-switch-preserved c =
    passed_more (λ (s : Switch). s.id) is_operable c.args.switches.now c.loop-switch.switch-index c.switch-item.result (item_at c.args.switches.now c.loop-switch.switch-index c.switch-item.result c.loop-switch-test.true c.switch-item.is)
    c.args.ids.now c.loop-switch.ids _ (sym c.is_operable.ensures ∙ c.if-not-is_operable.false) c.loop-switch.invariant (c.in_ok-push.ensures.ok ∙ ap (λ z. c.loop-switch.ids ++ z ∷ []) c.in_ok-copy.ensures)

pub returns : goal.returns
returns c = c.loop-switch.invariant ∙ ap (λ z. c.args.ids.now ++ breakers_of z) (take_all c.loop-switch.switch-index c.args.switches.now c.loop-switch-test.false)
