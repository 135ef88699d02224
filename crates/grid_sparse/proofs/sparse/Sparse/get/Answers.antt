use Rattle.std.proofs.Common.{sym, ap, ◌∙◌, get_or, nat_cmp, None}
use Rattle.std.specs.BTreeMap as tree
use Rattle.grid_sparse.proofs.Places.{option_at}
use Rattle.grid_sparse.proofs.sparse.Sparse.get.Goals as goal

pub returns : goal.returns
returns g c =
    c.get.ensures.value
    ∙ sym (option_at (tree.get nat_cmp c.self.inside.held) c.self.inside.count c.args.place c.self.invariant.1)
    ∙ ap (λ z. get_or z c.args.place None) c.self.view_is
