use Rattle.grid_placed.proofs.OwnPlans.{plans_are_own}
use Rattle.grid_placed.proofs.laws.plans_are_own_breakers.Goals as goal

pub returns : goal.returns
returns c = plans_are_own
