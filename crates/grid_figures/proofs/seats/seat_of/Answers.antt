use Rattle.std.proofs.Common.{ap, ◌+◌, ◌*◌, get_or, arith, rules}
use mir.Syntax.{w64}
use mir.Val.{Fits}
use Rattle.grid_figures.specs.Layouts.{part_of, seat_of}
use Rattle.grid_figures.proofs.seats.seat_of.Goals as goal

pub part_of-requires-clause-few : goal.part_of-requires-clause-few
part_of-requires-clause-few c =
    let below = c.requires.seat.part in
    let offset : Fits w64 (part_of c.args.first c.args.levels.now c.args.at.level * 4) = search rules in
    omega (arith, offset)

pub overflow_add-result : goal.overflow_add-result
unfolding seat_of
overflow_add-result c =
    let few = c.requires.seat.few in
    omega (arith, few, ap (λ z. get_or c.args.starts.now z 0) c.part_of.ensures)

pub returns : goal.returns
unfolding seat_of
returns c = ap (λ z. get_or c.args.starts.now z 0 + c.args.at.bus) c.part_of.ensures
