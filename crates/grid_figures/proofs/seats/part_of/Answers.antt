use Rattle.std.proofs.Common.{sym, arith}
use Rattle.grid_figures.proofs.ChangedLevels.{first_by_place, part_changed, part_kept}
use Rattle.grid_figures.proofs.seats.part_of.Goals as goal

pub overflow_add-result : goal.overflow_add-result
overflow_add-result c =
    let levels = c.args.levels.now in
    let found = c.in-Some.ensures in
    let is = part_changed c.args.first levels c.args.level c.in-Some.place (first_by_place levels c.requires.rising c.in-Some.place found.0 c.args.level found.1) in
    let few = c.requires.few in
    omega (arith, is, few)

pub returns-in-Some : goal.returns-in-Some
returns-in-Some c =
    let levels = c.args.levels.now in
    let found = c.in-Some.ensures in
    sym (part_changed c.args.first levels c.args.level c.in-Some.place (first_by_place levels c.requires.rising c.in-Some.place found.0 c.args.level found.1))

pub returns-in-None : goal.returns-in-None
returns-in-None c = sym (part_kept c.args.first c.args.levels.now c.args.level c.in-None.ensures)
