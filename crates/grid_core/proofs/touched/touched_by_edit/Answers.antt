use Rattle.std.proofs.Common.{sym, subst, inl, inr}
use Rattle.grid_structure.specs.declared.Branch.{Branch}
use Rattle.grid_structure.specs.declared.Edit.{Edit}
use Rattle.grid_structure.specs.Editing.{apply}
use Rattle.grid_requests.specs.Changes.{changed_or}
use Rattle.grid_core.specs.Touched.{IsTouch, AreLevelsOfEnds}
use Rattle.grid_core.proofs.UntouchedLevels.{busbar_touch, switch_touch, injection_touch, internal_touch, cut_touch, branch_touch, removed_touch, equipment_touch}
use Rattle.grid_core.proofs.touched.touched_by_edit.Goals as goal

pub returns-in-AddBranch : goal.returns-in-AddBranch
returns-in-AddBranch c =
    let net = c.args.structure.now in
    let touched = c.levels_of_branch.result in
    subst (λ (edit : Edit). IsTouch net (changed_or net (apply net edit)) touched) (sym c.in-AddBranch.is)
    (branch_touch net c.keeps.ensures c.in-AddBranch.id c.in-AddBranch.shape touched (subst (λ (shape : Branch). AreLevelsOfEnds net shape touched) c.branch-shape.ensures c.levels_of_branch.ensures))

pub returns-in-RemoveSwitch : goal.returns-in-RemoveSwitch
returns-in-RemoveSwitch c =
    let net = c.args.structure.now in
    let touched = c.level_of_switch.result in
    subst (λ (edit : Edit). IsTouch net (changed_or net (apply net edit)) touched) (sym c.in-RemoveSwitch.is) (removed_touch net c.keeps.ensures c.in-RemoveSwitch.id touched c.level_of_switch.ensures)

pub returns-in-AddBusbar : goal.returns-in-AddBusbar
returns-in-AddBusbar c =
    let net = c.args.structure.now in
    let level = c.in-AddBusbar.level in
    let touched = c.level_of.result in
    let s = c.keeps.ensures in
    let is = c.level_of.ensures in
    elim c.in-AddBusbar.is [
      | inl e ↦ subst (λ (edit : Edit). IsTouch net (changed_or net (apply net edit)) touched) (sym e.2) (busbar_touch net s e.0 level e.1 touched is)
      | inr (inl e) ↦ subst (λ (edit : Edit). IsTouch net (changed_or net (apply net edit)) touched) (sym e.7) (switch_touch net s e.0 level e.1 e.2 e.3 e.4 e.5 e.6 touched is)
      | inr (inr (inl e)) ↦ subst (λ (edit : Edit). IsTouch net (changed_or net (apply net edit)) touched) (sym e.3) (injection_touch net s e.0 level e.1 e.2 touched is)
      | inr (inr (inr (inl e))) ↦ subst (λ (edit : Edit). IsTouch net (changed_or net (apply net edit)) touched) (sym e.2) (internal_touch net s level e.0 e.1 touched is)
      | inr (inr (inr (inr e))) ↦ subst (λ (edit : Edit). IsTouch net (changed_or net (apply net edit)) touched) (sym e.2) (cut_touch net s level e.0 e.1 touched is)
    ]

pub returns-in-RemoveEquipment : goal.returns-in-RemoveEquipment
returns-in-RemoveEquipment c =
    let net = c.args.structure.now in
    let touched = c.levels_of_equipment.result in
    subst (λ (edit : Edit). IsTouch net (changed_or net (apply net edit)) touched) (sym c.in-RemoveEquipment.is) (equipment_touch net c.keeps.ensures c.in-RemoveEquipment.id touched c.levels_of_equipment.ensures)
