use Rattle.std.proofs.Common.{◌≡◌, ◌++◌, take}
use Rattle.std.specs.List.{flat_map}
use Rattle.grid_configured.specs.Texts.{bus_line}
use Rattle.grid_configured.proofs.texts.put_bus_lines.Given as goal

-- the lines so far
abbrev pub invariant-loop-bus : goal.invariant-loop-bus
invariant-loop-bus l = l.out ≡ l.fn.out ++ flat_map (bus_line l.view.level) (take l.bus-index l.view.buses)
