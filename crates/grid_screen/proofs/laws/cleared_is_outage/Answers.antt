use Rattle.grid_screen.proofs.Clearings.{cleared_is}
use Rattle.grid_screen.proofs.laws.cleared_is_outage.Goals as goal

pub returns : goal.returns
returns c = cleared_is
