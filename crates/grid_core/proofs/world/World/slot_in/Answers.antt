use Rattle.grid_core.proofs.WorldVariants.{matched}
use Rattle.grid_core.proofs.world.World.slot_in.Goals as goal

pub returns : goal.returns
returns c = matched c.args.self.now c.self.inside.origin.value c.self.inside.machine c.self.inside.journal.items c.self.view_is c.self.invariant.0 c.keeps.ensures c.args.name.now c.slot_of.result c.slot_of.ensures
