use Rattle.std.proofs.Common.{ap, ◌∙◌, get_or, length, arith}
use Rattle.grid_contingencies.proofs.ItemLoops.{got}
use Rattle.grid_contingencies.proofs.Once.{none, counted_more}
use Rattle.grid_contingencies.proofs.making.count_made.Goals as goal

pub loop-item-preserved : goal.loop-item-preserved
loop-item-preserved c =
    let items = c.slice-item-items.result.now in
    let i = c.loop-item.item-index in
    let item = get_or items i none in
    let own = c.len.ensures ∙ ap length c.in_ok-ids.ensures in
    omega (arith, c.in_ok-count.ensures, c.loop-item.invariant, own, counted_more c.args.structure.now items i item (got items i none c.loop-item-test.true))
