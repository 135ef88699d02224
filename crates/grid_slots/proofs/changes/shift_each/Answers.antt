use Rattle.std.proofs.Common.{arith}
use Rattle.grid_states.specs.Rows.{shifted}
use Rattle.grid_slots.proofs.VariantSums.{one_more}
use Rattle.grid_slots.proofs.changes.shift_each.Goals as goal

pub loop-place-preserved : goal.loop-place-preserved
loop-place-preserved c =
    one_more (shifted c.args.by) c.loop-place.place c.args.all.now.items c.loop-place.all.items c.index_mut.result.now
    c.shift.new.self c.loop-place.invariant c.index_mut.ensures.value c.shift.ensures
    (omega (arith, c.loop-place-test.true, c.len-place-end.ensures, c.args.all.now.ok.0))
