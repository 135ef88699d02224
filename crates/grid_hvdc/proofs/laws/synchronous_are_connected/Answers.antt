use Rattle.grid_hvdc.proofs.ComponentNumbers.{same_component}
use Rattle.grid_hvdc.proofs.laws.synchronous_are_connected.Goals as goal

pub returns : goal.returns
returns c = same_component
