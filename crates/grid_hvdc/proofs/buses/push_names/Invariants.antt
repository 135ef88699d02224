use Rattle.std.proofs.Common.{◌≡◌, ◌++◌, map, take}
use Rattle.grid_hvdc.specs.Names.{name_at}
use Rattle.grid_hvdc.proofs.buses.push_names.Given as goal

abbrev pub invariant-loop-least : goal.invariant-loop-least
invariant-loop-least l = l.names ≡ l.initial.names ++ map (name_at l.level) (take l.least-index l.leasts)
