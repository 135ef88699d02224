use Rattle.std.proofs.Common.{sym, ap, ◌∙◌, ◌++◌, ◌∷◌, [], map}
use Rattle.std.proofs.lemmas.List.{append-nil, take_all}
use Rattle.grid_contingencies.specs.Made.{made_of}
use Rattle.grid_contingencies.proofs.ItemLoops.{mapped_more, item_at}
use Rattle.grid_contingencies.proofs.making.push_made.Goals as goal

pub loop-id-init : goal.loop-id-init
loop-id-init c = sym (append-nil c.args.list.now)

pub loop-id-preserved : goal.loop-id-preserved
loop-id-preserved c =
    c.in_ok-push.ensures.ok ∙ ap (λ z. c.loop-id.list ++ z ∷ []) c.in_ok-made_of.ensures
    ∙ mapped_more (made_of c.args.role) c.args.ids.now c.loop-id.id-index c.id-item.result c.args.list.now c.loop-id.list (item_at c.args.ids.now c.loop-id.id-index c.id-item.result c.loop-id-test.true c.id-item.is) c.loop-id.invariant

pub returns : goal.returns
returns c = c.loop-id.invariant ∙ ap (λ z. c.args.list.now ++ map (made_of c.args.role) z) (take_all c.loop-id.id-index c.args.ids.now c.loop-id-test.false)
