use Rattle.grid_screened.proofs.InjectionTrips.{as_disconnect}
use Rattle.grid_screened.proofs.laws.as_disconnect.Goals as goal

pub returns : goal.returns
returns c = as_disconnect
