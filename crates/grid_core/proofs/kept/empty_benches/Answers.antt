use Rattle.std.proofs.Common.{◌<◌, length, rules}
use Rattle.grid_core.proofs.BySlot.{bench_left}
use Rattle.grid_core.proofs.kept.empty_benches.Goals as goal

pub loop-slot-preserved : goal.loop-slot-preserved
loop-slot-preserved c net variants k =
    let lt : c.loop-slot.slot < length c.loop-slot.all.items = search rules in
    bench_left net variants c.loop-slot.all.items c.loop-slot.slot c.index_mut.result.now _ lt c.index_mut.ensures.value (c.loop-slot.invariant net variants k)
