use Rattle.std.proofs.Common.{◌≡◌, ◌++◌, take, length}
use Rattle.std.specs.Prelude.{flat_map, zip}
use Rattle.grid_hvdc.specs.Lines.{named_bus_line}
use Rattle.grid_hvdc.proofs.lines.put_bus_lines.Given as goal

abbrev pub invariant-loop-name : goal.invariant-loop-name
invariant-loop-name l = l.out ≡ l.initial.out ++ flat_map (named_bus_line l.variant l.structure) (take (length l.yielded) (zip l.names l.numbers))
