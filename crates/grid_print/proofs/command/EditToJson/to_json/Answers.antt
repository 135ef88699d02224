use Rattle.grid_print.specs.Command.{edit_value}
use Rattle.grid_print.proofs.command.EditToJson.to_json.Goals as goal

pub returns-in-AddSwitch-clause-value : goal.returns-in-AddSwitch-clause-value
unfolding edit_value
returns-in-AddSwitch-clause-value c = rw c.in-AddSwitch.is (rw c.in-AddSwitch.is at c.add_switch.ensures)

pub returns-in-RemoveSwitch-clause-value : goal.returns-in-RemoveSwitch-clause-value
unfolding edit_value
returns-in-RemoveSwitch-clause-value c = rw c.in-RemoveSwitch.is c.one-in-RemoveSwitch.ensures

pub returns-in-AddInternal-clause-value : goal.returns-in-AddInternal-clause-value
unfolding edit_value
returns-in-AddInternal-clause-value c = rw c.in-AddInternal.is c.internal.ensures

pub returns-in-RemoveInternal-clause-value : goal.returns-in-RemoveInternal-clause-value
unfolding edit_value
returns-in-RemoveInternal-clause-value c = rw c.in-RemoveInternal.is c.internal-in-RemoveInternal.ensures
