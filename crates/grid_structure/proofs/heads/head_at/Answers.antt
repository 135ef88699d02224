use Rattle.std.proofs.Common.{◌*◌, ap, arith, length, length-drop, ◌∙◌, List}
use Rattle.grid_structure.specs.declared.structure.Head.{Head}
use Rattle.grid_structure.specs.Blocks.{count_of, place_by}
use Rattle.grid_structure.proofs.Blocks.{stop_inside, stop_rest, stop_place}
use Rattle.grid_structure.proofs.heads.head_at.Goals as goal

pub tail-requires : goal.tail-requires
tail-requires c = stop_inside (count_of c.args.own) c.args.heads.now c.args.sums.now c.requires.sums c.block_of-stop.result.block c.block_of-stop.result.rest c.args.place c.block_of-stop.ensures.within c.block_of-stop.ensures.split c.requires.within

pub head_in-requires : goal.head_in-requires
head_in-requires c =
    rw c.tail.ensures (stop_rest (count_of c.args.own) c.args.heads.now c.args.sums.now c.requires.sums c.block_of-stop.result.block c.block_of-stop.result.rest c.args.place c.block_of-stop.ensures.within c.block_of-stop.ensures.split c.requires.within)

pub overflow_mul-start : goal.overflow_mul-start
overflow_mul-start c =
    let inside = stop_inside (count_of c.args.own) c.args.heads.now c.args.sums.now c.requires.sums c.block_of-stop.result.block c.block_of-stop.result.rest c.args.place c.block_of-stop.ensures.within c.block_of-stop.ensures.split c.requires.within in
    omega (arith, inside)

pub overflow_add-result : goal.overflow_add-result
overflow_add-result c =
    let inside = stop_inside (count_of c.args.own) c.args.heads.now c.args.sums.now c.requires.sums c.block_of-stop.result.block c.block_of-stop.result.rest c.args.place c.block_of-stop.ensures.within c.block_of-stop.ensures.split c.requires.within in
    omega (arith, inside, c.head_in.ensures.within, ap length c.tail.ensures, length-drop (c.block_of-stop.result.block * 256) c.args.heads.now)

pub returns : goal.returns
returns c =
    let place = stop_place (count_of c.args.own) c.args.heads.now c.args.sums.now c.requires.sums c.block_of-stop.result.block c.block_of-stop.result.rest c.args.place c.block_of-stop.ensures.within c.block_of-stop.ensures.split c.requires.within in
    let here = c.head_in.ensures.place ∙ ap (λ (z : List Head). place_by (count_of c.args.own) z c.block_of-stop.result.rest) c.tail.ensures in
    omega (arith, place, here)
