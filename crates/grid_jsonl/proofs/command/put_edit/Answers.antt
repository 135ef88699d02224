use Rattle.grid_print.specs.Objects.{members_from}
use Rattle.grid_print.specs.Command.{edit_value}
use Rattle.grid_jsonl.specs.Commands.{new_level_text, new_switch_text}
use Rattle.grid_jsonl.specs.Trees.{ordered}
use Rattle.grid_jsonl.proofs.command.put_edit.Goals as goal

pub returns-in-AddSubstation : goal.returns-in-AddSubstation
unfolding edit_value members_from ordered new_level_text new_switch_text
returns-in-AddSubstation c = rw c.in-AddSubstation.is c.put_one.ensures

pub returns-in-AddLevel : goal.returns-in-AddLevel
unfolding edit_value members_from ordered new_level_text new_switch_text
returns-in-AddLevel c = rw c.in-AddLevel.is (rw c.in-AddLevel.is at c.put_new_level.ensures)

pub returns-in-AddBusbar : goal.returns-in-AddBusbar
unfolding edit_value members_from ordered new_level_text new_switch_text
returns-in-AddBusbar c = rw c.in-AddBusbar.is c.put_new_busbar.ensures

pub returns-in-AddSwitch : goal.returns-in-AddSwitch
unfolding edit_value members_from ordered new_level_text new_switch_text
returns-in-AddSwitch c = rw c.in-AddSwitch.is (rw c.in-AddSwitch.is at c.put_new_switch.ensures)

pub returns-in-RemoveSwitch : goal.returns-in-RemoveSwitch
unfolding edit_value members_from ordered new_level_text new_switch_text
returns-in-RemoveSwitch c = rw c.in-RemoveSwitch.is c.put_one-in-RemoveSwitch.ensures

pub returns-in-AddInternal : goal.returns-in-AddInternal
unfolding edit_value members_from ordered new_level_text new_switch_text
returns-in-AddInternal c = rw c.in-AddInternal.is c.put_internal.ensures

pub returns-in-RemoveInternal : goal.returns-in-RemoveInternal
unfolding edit_value members_from ordered new_level_text new_switch_text
returns-in-RemoveInternal c = rw c.in-RemoveInternal.is c.put_internal-in-RemoveInternal.ensures

pub returns-in-AddInjection : goal.returns-in-AddInjection
unfolding edit_value members_from ordered new_level_text new_switch_text
returns-in-AddInjection c = rw c.in-AddInjection.is c.put_new_injection.ensures

pub returns-in-AddBranch : goal.returns-in-AddBranch
unfolding edit_value members_from ordered new_level_text new_switch_text
returns-in-AddBranch c = rw c.in-AddBranch.is (rw c.branch-shape.ensures at c.put_branch.ensures)

pub returns-in-RemoveEquipment : goal.returns-in-RemoveEquipment
unfolding edit_value members_from ordered new_level_text new_switch_text
returns-in-RemoveEquipment c = rw c.in-RemoveEquipment.is c.put_one-in-RemoveEquipment.ensures
