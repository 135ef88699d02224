use Rattle.std.proofs.Common.{refl}
use Rattle.grid_report.specs.Histories.{chosen_order}
use Rattle.grid_cli.proofs.running.chosen_order.Goals as goal

pub returns-in-Some : goal.returns-in-Some
unfolding chosen_order
returns-in-Some c = rw c.in-Some.is refl

pub returns-in-None : goal.returns-in-None
unfolding chosen_order
returns-in-None c = rw c.in-None.is c.in_turn.ensures
