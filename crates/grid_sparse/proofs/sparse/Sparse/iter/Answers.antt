use Rattle.std.proofs.Common.{sym, ap, ◌∙◌, nat_cmp}
use Rattle.std.specs.BTreeMap as tree
use Rattle.grid_sparse.specs.Options.{present}
use Rattle.grid_sparse.proofs.Pairs.{present_pairs, present_there}
use Rattle.grid_sparse.proofs.sparse.Sparse.iter.Goals as goal

pub returns-clause-pairs : goal.returns-clause-pairs
returns-clause-pairs g c =
    c.iter.ensures.rest
    ∙ sym (present_pairs c.self.inside.count c.self.inside.held.entries c.iter.ensures.ordered c.self.invariant.1)
    ∙ ap present c.self.view_is

pub returns-clause-found : goal.returns-clause-found
returns-clause-found g c =
    present_there (tree.get nat_cmp c.self.inside.held) c.self.inside.count c.args.self.now c.self.inside.held.entries c.self.invariant.1 c.self.view_is
    (sym (present_pairs c.self.inside.count c.self.inside.held.entries c.iter.ensures.ordered c.self.invariant.1) ∙ ap present c.self.view_is)
    c.iter.ensures.found
