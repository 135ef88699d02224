use Rattle.std.proofs.Common.{refl, arith, rules, ◌<◌, length}
use Rattle.std.specs.Prelude.{slice_set}
use Rattle.grid_slots.specs.Variants.{rows_at}
use Rattle.grid_core.proofs.BySlot.{none_followed, one_follows, one_left, all_followed}
use Rattle.grid_core.proofs.kept.follow_slots.Goals as goal

pub loop-slot-init : goal.loop-slot-init
loop-slot-init c net next before after touch k = none_followed next after c.args.all.now.items

pub loop-slot-preserved : goal.loop-slot-preserved
loop-slot-preserved c net next before after touch k =
    let all = c.args.all.now.items in
    let now = c.loop-slot.all.items in
    let slot = c.loop-slot.slot in
    let own = c.follow.new.self in
    let so_far = c.loop-slot.invariant net next before after touch k in
    let lt : slot < length now = search rules in
    let was = one_left net next before after all now slot c.index_mut.result.now lt c.index_mut.ensures.value k so_far in
    one_follows next after all now (slice_set now slot own) slot own lt refl (c.follow.ensures net next (rows_at before slot).opened (rows_at after slot).opened touch was) so_far

pub returns : goal.returns
returns c net next before after touch k =
    all_followed next after c.args.all.now.items c.loop-slot.all.items c.loop-slot.slot (omega (arith, c.loop-slot-test.false, c.len-slot-end.ensures, c.args.all.now.ok.0)) (c.loop-slot.invariant net next before after touch k)
