use Rattle.grid_print.specs.Objects.{members_from}
use Rattle.grid_print.specs.Command.{request_value}
use Rattle.grid_jsonl.specs.Trees.{ordered}
use Rattle.grid_jsonl.proofs.command.put_command.Goals as goal

pub returns-in-UseVariant : goal.returns-in-UseVariant
unfolding request_value members_from ordered
returns-in-UseVariant c = rw c.in-UseVariant.is c.put_one.ensures

pub returns-in-OpenSwitch : goal.returns-in-OpenSwitch
unfolding request_value members_from ordered
returns-in-OpenSwitch c = rw c.in-OpenSwitch.is c.put_one-in-OpenSwitch.ensures

pub returns-in-CloseSwitch : goal.returns-in-CloseSwitch
unfolding request_value members_from ordered
returns-in-CloseSwitch c = rw c.in-CloseSwitch.is c.put_one-in-CloseSwitch.ensures

pub returns-in-RetainSwitch : goal.returns-in-RetainSwitch
unfolding request_value members_from ordered
returns-in-RetainSwitch c = rw c.in-RetainSwitch.is c.put_retain.ensures

pub returns-in-SetPower : goal.returns-in-SetPower
unfolding request_value members_from ordered
returns-in-SetPower c = rw c.in-SetPower.is c.put_power.ensures

pub returns-in-Totals : goal.returns-in-Totals
unfolding request_value members_from ordered
returns-in-Totals c = rw c.in-Totals.is c.put_totals.ensures

pub returns-in-Connect : goal.returns-in-Connect
unfolding request_value members_from ordered
returns-in-Connect c = rw c.in-Connect.is c.put_sided.ensures

pub returns-in-Disconnect : goal.returns-in-Disconnect
unfolding request_value members_from ordered
returns-in-Disconnect c = rw c.in-Disconnect.is c.put_sided-in-Disconnect.ensures

pub returns-in-BusBreakerView : goal.returns-in-BusBreakerView
unfolding request_value members_from ordered
returns-in-BusBreakerView c = rw c.in-BusBreakerView.is c.put_one-in-BusBreakerView.ensures

pub returns-in-BusView : goal.returns-in-BusView
unfolding request_value members_from ordered
returns-in-BusView c = rw c.in-BusView.is c.put_one-in-BusView.ensures

pub returns-in-Components : goal.returns-in-Components
unfolding request_value members_from ordered
returns-in-Components c = rw c.in-Components.is c.put_one-in-Components.ensures

pub returns-in-CloneVariant : goal.returns-in-CloneVariant
unfolding request_value members_from ordered
returns-in-CloneVariant c = rw c.in-CloneVariant.is c.put_clone.ensures

pub returns-in-RemoveVariant : goal.returns-in-RemoveVariant
unfolding request_value members_from ordered
returns-in-RemoveVariant c = rw c.in-RemoveVariant.is c.put_one-in-RemoveVariant.ensures

pub returns-in-Change : goal.returns-in-Change
unfolding request_value members_from ordered
returns-in-Change c = rw c.in-Change.is c.put_edit.ensures
