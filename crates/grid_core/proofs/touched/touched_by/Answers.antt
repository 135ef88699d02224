use Rattle.std.proofs.Common.{sym, subst}
use Rattle.grid_requests.specs.Changes.{structure_after}
use Rattle.grid_requests.specs.declared.request.Request.{Request}
use Rattle.grid_core.specs.Kept.{IsMoveOf}
use Rattle.grid_core.specs.Touched.{IsTouch}
use Rattle.grid_core.proofs.RowMoves.{switch_touch, opened_moved, closed_moved}
use Rattle.grid_core.proofs.touched.touched_by.Goals as goal

pub returns-in-Change-clause-touch : goal.returns-in-Change-clause-touch
unfolding structure_after
returns-in-Change-clause-touch c = subst (λ (r : Request). IsTouch c.args.structure.now (structure_after c.args.structure.now r) c.touched_by_edit.result) (sym c.in-Change.is) c.touched_by_edit.ensures

pub returns-in-OpenSwitch-clause-touch : goal.returns-in-OpenSwitch-clause-touch
unfolding structure_after
returns-in-OpenSwitch-clause-touch c =
    subst (λ (r : Request). IsTouch c.args.structure.now (structure_after c.args.structure.now r) c.level_of_switch.result) (sym c.in-OpenSwitch.is) (switch_touch c.args.structure.now _ c.level_of_switch.result c.level_of_switch.ensures)

pub returns-in-OpenSwitch-clause-moved : goal.returns-in-OpenSwitch-clause-moved
returns-in-OpenSwitch-clause-moved c = subst (λ (r : Request). IsMoveOf c.args.structure.now r c.level_of_switch.result) (sym c.in-OpenSwitch.is) (opened_moved c.args.structure.now _ c.level_of_switch.result c.level_of_switch.ensures)

pub returns-in-CloseSwitch-clause-touch : goal.returns-in-CloseSwitch-clause-touch
unfolding structure_after
returns-in-CloseSwitch-clause-touch c =
    subst (λ (r : Request). IsTouch c.args.structure.now (structure_after c.args.structure.now r) c.level_of_switch-in-CloseSwitch.result) (sym c.in-CloseSwitch.is) (switch_touch c.args.structure.now _ c.level_of_switch-in-CloseSwitch.result c.level_of_switch-in-CloseSwitch.ensures)

pub returns-in-CloseSwitch-clause-moved : goal.returns-in-CloseSwitch-clause-moved
returns-in-CloseSwitch-clause-moved c = subst (λ (r : Request). IsMoveOf c.args.structure.now r c.level_of_switch-in-CloseSwitch.result) (sym c.in-CloseSwitch.is) (closed_moved c.args.structure.now _ c.level_of_switch-in-CloseSwitch.result c.level_of_switch-in-CloseSwitch.ensures)
