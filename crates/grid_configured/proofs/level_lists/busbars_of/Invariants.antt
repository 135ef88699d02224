use Rattle.std.proofs.Common.{◌≡◌, take}
use Rattle.std.specs.Prelude.{map}
use Rattle.std.specs.List.{enumerate_from}
use Rattle.grid_configured.specs.Partial.{bus_at}
use Rattle.grid_configured.proofs.level_lists.busbars_of.Given as goal

abbrev pub invariant-loop-place : goal.invariant-loop-place
invariant-loop-place l = l.made ≡ map bus_at (enumerate_from 0 (take l.place l.buses))
