use Rattle.std.proofs.Common.{◌≡◌}
use Rattle.std.specs.Prelude.{flat_map}
use Rattle.grid_structure.specs.Loading.{apply_each}
use Rattle.grid_structure.specs.Lists.{level_listed}
use Rattle.grid_structure.proofs.lists.add_levels.Given as goal

-- the levels that are left do what is left
abbrev pub invariant-loop-level : goal.invariant-loop-level
invariant-loop-level l = apply_each l.structure (flat_map (level_listed l.substation) l.level-iterator.rest.items) ≡ apply_each l.fn.structure (flat_map (level_listed l.substation) l.fn.levels)
