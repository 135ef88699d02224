use Rattle.std.proofs.Common.{◌∙◌, ◌+◌, ap, arith}
use Rattle.std.specs.List.{sum_by}
use Rattle.std.proofs.lemmas.List.{take_all}
use Rattle.std.proofs.lemmas.List.Sums.{sum_by_more, sum_by-take-le}
use Rattle.grid_structure.specs.Blocks.{count_of}
use Rattle.grid_structure.proofs.heads.total_own.Goals as goal

pub overflow_add-total : goal.overflow_add-total
overflow_add-total c =
    let more = sum_by_more (count_of c.args.own) c.args.heads.now c.loop-place.place c.index-heads-place.result (omega arith) in
    let same = ap (count_of c.args.own) c.index-heads-place.is in
    omega (arith, more, same, sum_by-take-le (count_of c.args.own) c.args.heads.now (c.loop-place.place + 1))

pub loop-place-preserved : goal.loop-place-preserved
loop-place-preserved c =
    let more = sum_by_more (count_of c.args.own) c.args.heads.now c.loop-place.place c.index-heads-place.result (omega arith) in
    let same = ap (count_of c.args.own) c.index-heads-place.is in
    omega (arith, more, same)

pub returns : goal.returns
returns c = c.loop-place.invariant ∙ ap (sum_by (count_of c.args.own)) (take_all c.loop-place.place c.args.heads.now (omega arith))
