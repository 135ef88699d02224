use Rattle.std.proofs.Common.{◌≡◌}
use Rattle.grid_structure.specs.Loading.{apply_each}
use Rattle.grid_structure.specs.Lists.{each_listed}
use Rattle.grid_structure.proofs.lists.add_each.Given as goal

-- the parts that are left do what is left
abbrev pub invariant-loop-part : goal.invariant-loop-part
invariant-loop-part g l =
    apply_each l.structure (each_listed g.T.Part.edit l.owner l.part-iterator.rest.items) ≡ apply_each l.fn.structure (each_listed g.T.Part.edit l.owner l.fn.parts)
