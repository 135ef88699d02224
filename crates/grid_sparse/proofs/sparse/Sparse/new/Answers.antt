use Rattle.std.proofs.Common.{ap, ◌∙◌, nat_cmp}
use Rattle.std.specs.BTreeMap as tree
use Rattle.std.specs.BTreeMap.{is_at}
use Rattle.std.specs.Map.{lookup}
use Rattle.grid_sparse.proofs.Places.{length_options, option_at}
use Rattle.grid_sparse.proofs.sparse.Sparse.new.Goals as goal

pub returns-clause-long : goal.returns-clause-long
returns-clause-long g c = length_options (tree.get nat_cmp c.new.result) c.args.count

pub returns-clause-none : goal.returns-clause-none
returns-clause-none g c = λ k. option_at (tree.get nat_cmp c.new.result) c.args.count k (λ place past. ap (lookup (is_at (nat_cmp place))) c.new.ensures.empty) ∙ ap (lookup (is_at (nat_cmp k))) c.new.ensures.empty
