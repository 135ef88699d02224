use Rattle.std.proofs.Common.{subst}
use Rattle.grid_core.specs.Kept.{AreKnown}
use Rattle.grid_core.proofs.VariantViews.{flags_fit}
use Rattle.grid_core.proofs.Ranges.{rows_of_levels}
use Rattle.grid_core.proofs.viewing.keep_known.Goals as goal

pub returns-in-All-clause-all : goal.returns-in-All-clause-all
unfolding AreKnown
returns-in-All-clause-all c t = subst (AreKnown c.args.structure.now c.args.states.now.opened c.args.own.now.buses) c.in-All.is c.requires.buses.known

pub keep_level-requires-clause-rows : goal.keep_level-requires-clause-rows
keep_level-requires-clause-rows c = rows_of_levels c.args.structure.now c.args.states.now.opened c.requires.rows

pub keep_level-requires-clause-flags : goal.keep_level-requires-clause-flags
keep_level-requires-clause-flags c = flags_fit c.args.structure.now c.args.states.now.opened c.requires.rows

pub keep_level-requires-clause-others : goal.keep_level-requires-clause-others
unfolding AreKnown
keep_level-requires-clause-others c = subst (AreKnown c.args.structure.now c.args.states.now.opened c.args.own.now.buses) c.in-AllBut.is c.requires.buses.known
