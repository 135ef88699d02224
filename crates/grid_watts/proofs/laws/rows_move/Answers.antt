use Rattle.grid_watts.proofs.Variants.{values_move, injections_new, injections_move, removals_move, removals_leave, levels_move, others_leave}
use Rattle.grid_watts.proofs.laws.rows_move.Goals as goal

pub returns-clause-values : goal.returns-clause-values
returns-clause-values c = values_move

pub returns-clause-unlisted : goal.returns-clause-unlisted
returns-clause-unlisted c = injections_new

pub returns-clause-injections : goal.returns-clause-injections
returns-clause-injections c = injections_move

pub returns-clause-removals : goal.returns-clause-removals
returns-clause-removals c = removals_move

pub returns-clause-others_removed : goal.returns-clause-others_removed
returns-clause-others_removed c = removals_leave

pub returns-clause-levels : goal.returns-clause-levels
returns-clause-levels c = levels_move

pub returns-clause-others : goal.returns-clause-others
returns-clause-others c = others_leave
