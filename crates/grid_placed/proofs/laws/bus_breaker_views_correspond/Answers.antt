use Rattle.grid_placed.proofs.Apart.{apart_corresponds}
use Rattle.grid_placed.proofs.laws.bus_breaker_views_correspond.Goals as goal

pub returns : goal.returns
returns c = apart_corresponds
