use Rattle.std.proofs.Common.{arith}
use Rattle.grid_slots.proofs.UsedSlots.{many_used}
use Rattle.grid_slots.proofs.slots.VariantTable.free_slot.Goals as goal

pub returns-clause-below : goal.returns-clause-below
returns-clause-below c =
    let many = many_used c.loop-slot.slot c.args.self.now c.loop-slot.invariant.1 in
    omega (arith, many, c.requires)
