use Rattle.grid_print.specs.Command.{request_value}
use Rattle.grid_print.proofs.command.RequestToJson.to_json.Goals as goal

pub returns-in-Disconnect-clause-value : goal.returns-in-Disconnect-clause-value
unfolding request_value
returns-in-Disconnect-clause-value c = rw c.in-Disconnect.is c.side_command-in-Disconnect.ensures

pub returns-in-BusBreakerView-clause-value : goal.returns-in-BusBreakerView-clause-value
unfolding request_value
returns-in-BusBreakerView-clause-value c = rw c.in-BusBreakerView.is c.one-in-BusBreakerView.ensures

pub returns-in-BusView-clause-value : goal.returns-in-BusView-clause-value
unfolding request_value
returns-in-BusView-clause-value c = rw c.in-BusView.is c.one-in-BusView.ensures
