use Rattle.std.proofs.Common.{◌≡◌, ◌++◌, take}
use Rattle.grid_screen.specs.Opening.{equipment_hit}
use Rattle.grid_screen.proofs.clearing.push_equipment.Given as goal

abbrev pub invariant-loop-placed : goal.invariant-loop-placed
invariant-loop-placed l = l.ids ≡ l.initial.ids ++ equipment_hit l.touched (take l.placed-index l.placed)
