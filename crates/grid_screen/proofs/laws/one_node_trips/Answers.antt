use Rattle.grid_screen.proofs.FaultClearances.{one_node_trips}
use Rattle.grid_screen.proofs.laws.one_node_trips.Goals as goal

pub returns : goal.returns
returns c = one_node_trips
