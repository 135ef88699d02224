use Rattle.std.proofs.Common.{◌≡◌}
use Rattle.std.specs.Prelude.{flat_map}
use Rattle.grid_structure.specs.Loading.{apply_each}
use Rattle.grid_structure.specs.Lists.{substation_listed}
use Rattle.grid_structure.proofs.lists.add_substations.Given as goal

-- the substations that are left do what is left
abbrev pub invariant-loop-substation : goal.invariant-loop-substation
invariant-loop-substation l = apply_each l.structure (flat_map substation_listed l.substation-iterator.rest.items) ≡ apply_each l.fn.structure (flat_map substation_listed l.fn.substations)
