use Rattle.std.proofs.Common.{◌∙◌, ap, get_or, arith}
use Rattle.std.proofs.lemmas.Option.{get_or_from_slice_get}
use Rattle.std.proofs.Common.{sym}
use Rattle.grid_level.specs.Passing.{nodes}
use Rattle.grid_groups.specs.Labels.{label_of}
use Rattle.grid_groups.proofs.Indices.{among_In, index_below}
use Rattle.grid_groups.proofs.grouping.leader.Goals as goal

pub bounds-labels-index_of : goal.bounds-labels-index_of
bounds-labels-index_of c =
    let less = index_below c.args.node (nodes c.args.level.now) (among_In c.args.node (nodes c.args.level.now) c.requires.node) in
    omega (arith, less, c.index_of.ensures, c.requires.long)

pub returns : goal.returns
unfolding label_of
returns c =
    let ns = nodes c.args.level.now in
    let labels = c.args.labels.now in
    sym (get_or_from_slice_get ns (get_or labels c.index_of.result 0) c.node_at.result 0 c.node_at.ensures) ∙ ap (λ k. get_or ns (get_or labels k 0) 0) c.index_of.ensures
