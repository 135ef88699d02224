use Rattle.grid_report.proofs.Turns.{order_told, turns_are_order}
use Rattle.grid_report.proofs.laws.steps_tell_order.Goals as goal

pub returns-clause-told : goal.returns-clause-told
returns-clause-told c = order_told

pub returns-clause-in_turn : goal.returns-clause-in_turn
returns-clause-in_turn c = turns_are_order
