use Rattle.grid_screen.proofs.Leasts.{zone_is_least}
use Rattle.grid_screen.proofs.laws.zone_is_least.Goals as goal

pub returns : goal.returns
returns c = zone_is_least
