use Rattle.grid_configured.proofs.PlainParts.{got, level_is_plain}
use Rattle.grid_configured.proofs.LinePuts.{stands_at, few_at, firsts_more, firsts_done}
use Rattle.grid_configured.proofs.line_lists.levels_of.Goals as goal

pub level_of-requires-clause-numbered : goal.level_of-requires-clause-numbered
level_of-requires-clause-numbered c =
    let n = c.args.network.now in
    let k = c.loop-level.level-index in
    let l = c.level-item.result in
    c.requires.numbered.buses k l (got n.levels c.slice-level-items.result.now k l c.slice-level-items.ensures c.loop-level-test.true c.level-item.is)

pub level_of-requires-clause-stands : goal.level_of-requires-clause-stands
level_of-requires-clause-stands c =
    let n = c.args.network.now in
    let k = c.loop-level.level-index in
    let l = c.level-item.result in
    stands_at n k l c.requires.translatable (got n.levels c.slice-level-items.result.now k l c.slice-level-items.ensures c.loop-level-test.true c.level-item.is)

pub level_of-requires-clause-plain : goal.level_of-requires-clause-plain
level_of-requires-clause-plain c =
    let n = c.args.network.now in
    let k = c.loop-level.level-index in
    let l = c.level-item.result in
    level_is_plain n k l c.requires.translatable (got n.levels c.slice-level-items.result.now k l c.slice-level-items.ensures c.loop-level-test.true c.level-item.is)

pub level_of-requires-clause-few : goal.level_of-requires-clause-few
level_of-requires-clause-few c =
    let n = c.args.network.now in
    let k = c.loop-level.level-index in
    let l = c.level-item.result in
    few_at n k l c.requires.translatable (got n.levels c.slice-level-items.result.now k l c.slice-level-items.ensures c.loop-level-test.true c.level-item.is)

pub loop-level-preserved : goal.loop-level-preserved
loop-level-preserved c =
    let l = c.level-item.result in
    let more = firsts_more c.slice-level-items.result.now c.loop-level.level-index l c.loop-level-test.true c.level-item.is in
    let first = c.in_ok-first.ensures in
    let done = c.in_ok-push.ensures.items in
    let invariant = c.loop-level.invariant in
    cc

pub returns : goal.returns
returns c = firsts_done c.args.network.now c.slice-level-items.result.now c.loop-level.made.items c.loop-level.level-index c.slice-level-items.ensures c.loop-level-test.false c.loop-level.invariant
