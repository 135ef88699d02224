use Rattle.grid_core.proofs.Removals.{equipment_not_told}
use Rattle.grid_core.proofs.editing.take_equipment.Goals as goal

pub unreachable-requires : goal.unreachable-requires
unreachable-requires c = equipment_not_told c.args.structure.now c.args.id.now c.requires c.in-Err.field-0 c.in-Err.ensures.refused c.in-Err.ensures.sure
