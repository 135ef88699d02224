use Rattle.std.proofs.Common.{sym, ap, ◌∙◌, length, nat_cmp}
use Rattle.std.specs.BTreeMap as tree
use Rattle.grid_sparse.proofs.Places.{length_options}
use Rattle.grid_sparse.proofs.sparse.Sparse.len.Goals as goal

pub returns : goal.returns
returns g c = sym (length_options (tree.get nat_cmp c.self.inside.held) c.self.inside.count) ∙ ap length c.self.view_is
