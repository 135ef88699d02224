use Rattle.std.proofs.Common.{◌+◌, arith}
use Rattle.grid_structure.proofs.LevelHomes.{head_below}
use Rattle.grid_structure.proofs.Windings.{many_part, many_rises}
use Rattle.grid_structure.proofs.taking.place_in_home.Goals as goal

pub transformers_before-start-requires-clause-within : goal.transformers_before-start-requires-clause-within
transformers_before-start-requires-clause-within c = omega (arith, c.head_of_level-home.ensures, head_below c.args.heads.now c.args.level c.requires.within)

pub overflow_add-home : goal.overflow_add-home
overflow_add-home c = omega (arith, c.head_of_level-home.ensures, head_below c.args.heads.now c.args.level c.requires.within, c.requires.few)

pub transformers_before-end-requires-clause-within : goal.transformers_before-end-requires-clause-within
transformers_before-end-requires-clause-within c = omega (arith, c.head_of_level-home.ensures, head_below c.args.heads.now c.args.level c.requires.within)

pub place_of_number-requires-clause-order : goal.place_of_number-requires-clause-order
place_of_number-requires-clause-order c = omega (arith, c.transformers_before-start.ensures, c.transformers_before-end.ensures, many_rises c.args.heads.now c.head_of_level-home.result)

pub place_of_number-requires-clause-end : goal.place_of_number-requires-clause-end
place_of_number-requires-clause-end c = omega (arith, c.transformers_before-end.ensures, c.requires.count, many_part c.args.heads.now (c.head_of_level-home.result + 1))
