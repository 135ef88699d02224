use Rattle.std.proofs.Common.{◌≡◌, map, take}
use Rattle.grid_configured.specs.Viewed.{told_bus}
use Rattle.grid_configured.proofs.seeing.tell_buses.Given as goal

abbrev pub invariant-loop-bus : goal.invariant-loop-bus
invariant-loop-bus l = l.list ≡ map (told_bus l.count) (take l.bus-index l.buses)
