use Rattle.std.proofs.Common.{ap, arith, get_or}
use Rattle.grid_level.specs.Passing.{nodes}
use Rattle.grid_groups.specs.Labels.{label_of}
use Rattle.grid_groups.proofs.Indices.{among_In, index_below}
use Rattle.grid_connect.proofs.joined.label_at.Goals as goal

pub bounds-labels-index_of : goal.bounds-labels-index_of
bounds-labels-index_of c =
    let low = index_below c.args.node (nodes c.args.level.now) (among_In c.args.node (nodes c.args.level.now) c.requires.node) in
    omega (arith, low, c.index_of.ensures, c.requires.long)

pub returns : goal.returns
unfolding label_of
returns c = ap (λ k. get_or c.args.labels.now k 0) c.index_of.ensures
