use Rattle.grid_shaped.proofs.NodeCounts.{buses_counted}
use Rattle.grid_shaped.proofs.laws.buses_are_counted.Goals as goal

pub returns : goal.returns
returns c = buses_counted
