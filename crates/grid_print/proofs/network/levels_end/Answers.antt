use Rattle.std.proofs.Common.{◌+◌, arith}
use Rattle.grid_structure.specs.Sites.{levels}
use Rattle.grid_print.proofs.SubstationPlaces.{levels_after, levels_within}
use Rattle.grid_print.proofs.network.levels_end.Goals as goal

pub prove-unreachable-requires : goal.prove-unreachable-requires
unfolding levels
prove-unreachable-requires c = omega (arith, c.if-prove.true, c.level_count-all.ensures, c.requires.begin, levels_within c.args.network.now.substations c.args.substation)

pub overflow_add-result : goal.overflow_add-result
unfolding levels
overflow_add-result c =
    let after = levels_after c.args.network.now.substations c.args.substation c.levels_of.result c.levels_of.ensures in
    omega (arith, c.level_count-all.type_inv, c.level_count-all.ensures, c.requires.begin, after, levels_within c.args.network.now.substations (c.args.substation + 1))

pub returns : goal.returns
returns c = omega (arith, c.requires.begin, levels_after c.args.network.now.substations c.args.substation c.levels_of.result c.levels_of.ensures)
