use Rattle.grid_core.proofs.VariantSteps.{stands_slot}
use Rattle.grid_core.proofs.WorldVariants.{contradicts, rows_are, structure_is, fits}
use Rattle.grid_core.proofs.world.World.states_in.Goals as goal

pub states-requires : goal.states-requires
states-requires c = stands_slot c.self.inside.machine c.args.name.now c.in-Some.slot c.in-Some.ensures

pub unreachable-requires : goal.unreachable-requires
unreachable-requires c = contradicts c.args.self.now c.self.inside.origin.value c.self.inside.machine c.self.inside.journal.items c.self.view_is c.self.invariant.0 c.args.name.now c.in-None.ensures c.requires

pub returns-clause-value : goal.returns-clause-value
returns-clause-value c = rows_are c.args.self.now c.self.inside.origin.value c.self.inside.machine c.self.inside.journal.items c.self.view_is c.self.invariant.0 c.args.name.now c.in-Some.slot c.in-Some.ensures c.states.result.now c.states.ensures

pub returns-clause-structure : goal.returns-clause-structure
returns-clause-structure c = structure_is c.args.self.now c.self.inside.origin.value c.self.inside.machine c.self.inside.journal.items c.self.view_is c.self.invariant.0 c.args.name.now c.in-Some.slot c.in-Some.ensures

pub returns-clause-fits : goal.returns-clause-fits
returns-clause-fits c = fits c.args.self.now c.self.inside.origin.value c.self.inside.machine c.self.inside.journal.items c.self.view_is c.self.invariant.0 c.args.name.now c.in-Some.slot c.in-Some.ensures
