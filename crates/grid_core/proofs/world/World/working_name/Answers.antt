use Rattle.grid_core.proofs.WorldVariants.{named}
use Rattle.grid_core.proofs.world.World.working_name.Goals as goal

pub returns : goal.returns
returns c = named c.args.self.now c.self.inside.origin.value c.self.inside.machine c.self.inside.journal.items c.self.view_is c.self.invariant.0 c.args.worker c.index.result.now c.requires c.index.ensures
