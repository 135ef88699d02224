use Rattle.std.proofs.Common.{◌≡◌, ◌++◌, flat_map}
use Rattle.grid_sparse.specs.Options.{AreThere}
use Rattle.grid_screen.specs.Opening.{network_equipment}
use Rattle.grid_screen.proofs.Clearings.{equipment_of}
use Rattle.grid_screen.proofs.clearing.push_hit_equipment.Given as goal

abbrev pub invariant-loop-place : goal.invariant-loop-place
invariant-loop-place l = record {
  so_far : l.ids ++ flat_map (equipment_of l.scene) l.place-iterator ≡ l.initial.ids ++ network_equipment l.scene l.touched;
  there : AreThere l.touched l.place-iterator;
}
