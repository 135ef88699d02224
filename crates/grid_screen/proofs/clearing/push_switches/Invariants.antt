use Rattle.std.proofs.Common.{◌≡◌, ◌++◌, take}
use Rattle.std.specs.Prelude.{flat_map}
use Rattle.grid_screen.specs.Faults.{switch_ids}
use Rattle.grid_screen.proofs.clearing.push_switches.Given as goal

abbrev pub invariant-loop-at : goal.invariant-loop-at
invariant-loop-at l = l.ids ≡ l.initial.ids ++ flat_map (switch_ids l.structure) (take l.at-index l.switches)
