use Rattle.std.proofs.Common.{◌+◌, arith}
use Rattle.grid_structure.specs.Sites.{branches}
use Rattle.grid_print.proofs.SubstationPlaces.{transformers_after, transformers_within}
use Rattle.grid_print.proofs.network.transformers_end.Goals as goal

pub prove-unreachable-requires : goal.prove-unreachable-requires
unfolding branches
prove-unreachable-requires c = omega (arith, c.if-prove.true, c.branch_count-all.ensures, c.requires.begin, transformers_within c.args.network.now c.args.substation)

pub overflow_add-result : goal.overflow_add-result
unfolding branches
overflow_add-result c =
    let after = transformers_after c.args.network.now.substations c.args.substation c.transformers_of.result c.transformers_of.ensures in
    omega (arith, c.branch_count-all.type_inv, c.branch_count-all.ensures, c.requires.begin, after, transformers_within c.args.network.now (c.args.substation + 1))

pub returns : goal.returns
returns c = omega (arith, c.requires.begin, transformers_after c.args.network.now.substations c.args.substation c.transformers_of.result c.transformers_of.ensures)
