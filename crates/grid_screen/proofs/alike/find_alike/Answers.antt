use Rattle.std.proofs.Common.{sym, ap, ◌∙◌, map, Some}
use Rattle.std.proofs.lemmas.List.{take_all}
use Rattle.grid_contingencies.specs.declared.Contingency.{Contingency}
use Rattle.grid_screen.specs.Alike.{event_of, event_of_group}
use Rattle.grid_screen.proofs.Likeness.{none_alike, group_new, group_known}
use Rattle.grid_screen.proofs.alike.find_alike.Goals as goal

pub loop-contingency-init : goal.loop-contingency-init
loop-contingency-init c = none_alike c.empty-firsts.result c.new-groups.result.items c.new-groups.ensures.items

pub loop-contingency-preserved-in_default : goal.loop-contingency-preserved-in_default
loop-contingency-preserved-in_default c =
    group_new c.args.list.now c.loop-contingency.contingency-index c.loop-contingency.firsts _ c.loop-contingency.groups.items _ _ c.contingency-item.result c.in_ok-copy.field-0 c.loop-contingency-test.true c.contingency-item.is c.loop-contingency.invariant (ap event_of c.in_ok-copy.ensures)
    c.in_ok-push-2.ensures.ok c.in_ok-push.ensures.items c.len-in_default.ensures

pub loop-contingency-preserved : goal.loop-contingency-preserved
loop-contingency-preserved c =
    group_known c.args.list.now c.loop-contingency.contingency-index c.loop-contingency.firsts c.loop-contingency.groups.items _ c.in-Some.group c.contingency-item.result c.loop-contingency-test.true c.contingency-item.is c.loop-contingency.invariant (ap (λ z. event_of_group z c.in-Some.group) (sym c.slice.ensures) ∙ c.in-Some.ensures) c.in_ok-push-3.ensures.items

pub returns : goal.returns
returns c =
    let list = c.args.list.now in
    c.loop-contingency.invariant ∙ ap (map (λ (c : Contingency). Some (event_of c))) (take_all c.loop-contingency.contingency-index list c.loop-contingency-test.false)
