use Rattle.std.proofs.Common.{◌≡◌, ◌++◌, take}
use Rattle.std.specs.Prelude.{filter}
use Rattle.grid_screen.specs.Outages.{is_switch}
use Rattle.grid_screen.proofs.clearing.push_hit_switches.Given as goal

abbrev pub invariant-loop-id : goal.invariant-loop-id
invariant-loop-id l = l.ids ≡ l.initial.ids ++ filter (is_switch l.structure) (take l.id-index l.hit)
