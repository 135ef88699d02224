use Rattle.std.proofs.Common.{sym, ap, ◌∙◌, get_or, nat_cmp, None}
use Rattle.std.specs.Prelude.{slice_set}
use Rattle.std.specs.BTreeMap as tree
use Rattle.grid_sparse.proofs.Places.{option_at, map_set}
use Rattle.grid_sparse.proofs.sparse.Sparse.take.Goals as goal

pub returns-clause-taken : goal.returns-clause-taken
returns-clause-taken g c =
    c.remove.ensures.value
    ∙ sym (option_at (tree.get nat_cmp c.self.inside.held) c.self.inside.count c.args.place c.self.invariant.1)
    ∙ ap (λ z. get_or z c.args.place None) c.self.view_is

pub returns-clause-left : goal.returns-clause-left
returns-clause-left g c =
    map_set c.self.inside.held c.remove.new.self c.self.inside.count c.args.place None c.remove.ensures.updates
    ∙ ap (λ z. slice_set z c.args.place None) c.self.view_is
