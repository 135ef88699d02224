use Rattle.grid_screen.proofs.FaultClearances.{zone_is_cleared}
use Rattle.grid_screen.proofs.laws.zone_is_cleared.Goals as goal

pub returns : goal.returns
returns c = zone_is_cleared
