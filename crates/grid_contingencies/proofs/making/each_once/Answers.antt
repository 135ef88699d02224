use Rattle.std.proofs.Common.{sym, ap, ◌∙◌, get_or}
use Rattle.grid_contingencies.specs.Made.{has_item}
use Rattle.grid_contingencies.proofs.ItemLoops.{got}
use Rattle.grid_contingencies.proofs.Once.{none, just_more, just_again, once_more, once_again, once_all}
use Rattle.grid_contingencies.proofs.making.each_once.Goals as goal

pub loop-item-init : goal.loop-item-init
loop-item-init c = record { once = c.empty-each.ensures; just = λ item. ap (λ z. has_item z item) c.empty-each.ensures }

pub loop-item-preserved-then-lists : goal.loop-item-preserved-then-lists
loop-item-preserved-then-lists c =
    let items = c.args.items.now in
    let i = c.loop-item.item-index in
    let lt = c.loop-item-test.true in
    let item = get_or items i none in
    let there = ap (λ z. has_item z item) (sym c.slice.ensures) ∙ sym c.lists.ensures ∙ c.if-lists.true in
    record {
      once = once_again items c.loop-item.each i item lt (got items i none lt) c.loop-item.invariant.just there c.loop-item.invariant.once;
      just = just_again items c.loop-item.each i item lt (got items i none lt) c.loop-item.invariant.just there;
    }

pub loop-item-preserved : goal.loop-item-preserved
loop-item-preserved c =
    let items = c.args.items.now in
    let i = c.loop-item.item-index in
    let lt = c.loop-item-test.true in
    let item = get_or items i none in
    let gone = ap (λ z. has_item z item) (sym c.slice.ensures) ∙ sym c.lists.ensures ∙ c.if-lists.false in
    record {
      once = once_more items c.loop-item.each i item lt (got items i none lt) c.loop-item.invariant.just _ gone c.loop-item.invariant.once c.in_ok-push.ensures.ok;
      just = just_more items c.loop-item.each i item lt (got items i none lt) c.loop-item.invariant.just _ c.in_ok-push.ensures.ok;
    }

pub returns : goal.returns
returns c = once_all c.args.items.now c.loop-item.each c.loop-item.item-index c.loop-item-test.false c.loop-item.invariant.once
