use Rattle.std.proofs.Common.{ap, get_or, arith}
use Rattle.grid_level.specs.Passing.{nodes}
use Rattle.grid_groups.specs.Labels.{label_of}
use Rattle.grid_groups.proofs.Indices.{among_In, index_below}
use Rattle.grid_screen.proofs.walk.label_among.Goals as goal

pub bounds-labels-index_of : goal.bounds-labels-index_of
bounds-labels-index_of c =
    let all = nodes c.args.level.now in
    omega (arith, index_below c.args.node all (among_In c.args.node all c.requires.node), c.index_of.ensures, c.requires.long)

pub returns : goal.returns
unfolding label_of
returns c = ap (λ z. get_or c.args.labels.now z 0) c.index_of.ensures
