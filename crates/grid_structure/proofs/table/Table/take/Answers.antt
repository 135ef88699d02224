use Rattle.std.proofs.Common.{None}
use Rattle.grid_structure.specs.Table.{slot_at}
use Rattle.grid_structure.proofs.Entries.{changed}
use Rattle.grid_structure.proofs.table.Table.take.Goals as goal

pub returns : goal.returns
unfolding slot_at
returns c = rw (← c.self.view_is) (changed c.args.id.now c.self.inside.slots c.swap_remove.new.self None c.swap_remove.ensures.updates)
