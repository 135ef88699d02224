use Rattle.std.proofs.Common.{refl, arith, rules, ◌<◌, length}
use Rattle.std.specs.Prelude.{slice_set}
use Rattle.grid_slots.specs.Variants.{rows_at}
use Rattle.grid_core.proofs.BySlot.{none_followed, one_follows, one_left, all_followed}
use Rattle.grid_core.proofs.RowMoves.{slot_moved}
use Rattle.grid_core.proofs.kept.doubt.Goals as goal

pub loop-slot-init : goal.loop-slot-init
loop-slot-init c net before after move k = none_followed net after c.args.all.now.items

pub loop-slot-preserved : goal.loop-slot-preserved
loop-slot-preserved c net before after move k =
    let all = c.args.all.now.items in
    let now = c.loop-slot.all.items in
    let slot = c.loop-slot.slot in
    let own = c.doubt.new.self in
    let so_far = c.loop-slot.invariant net before after move k in
    let lt : slot < length now = search rules in
    let was = one_left net net before after all now slot c.index_mut.result.now lt c.index_mut.ensures.value k so_far in
    one_follows net after all now (slice_set now slot own) slot own lt refl (c.doubt.ensures net (rows_at before slot).opened (rows_at after slot).opened (slot_moved c.args.moved before after slot move) was) so_far

pub returns : goal.returns
returns c net before after move k =
    all_followed net after c.args.all.now.items c.loop-slot.all.items c.loop-slot.slot (omega (arith, c.loop-slot-test.false, c.len-slot-end.ensures, c.args.all.now.ok.0)) (c.loop-slot.invariant net before after move k)
