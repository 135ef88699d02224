use Rattle.std.proofs.Common.{◌∙◌, ap}
use Rattle.std.specs.Prelude.{List, remove}
use Rattle.grid_lemmas.proofs.Lists.{remove_insert}
use Rattle.grid_structure.specs.declared.NamedBranch.{NamedBranch}
use Rattle.grid_structure.proofs.branches.put_branch.Goals as goal

pub returns-clause-same_list : goal.returns-clause-same_list
returns-clause-same_list c =
    c.take_record.ensures ∙ ap (λ (xs : List NamedBranch). remove xs c.args.at) c.in-Ok.ensures.done
    ∙ remove_insert c.args.list.now.items c.args.at c.args.branch c.requires.at
