use Rattle.std.proofs.Common.{◌≡◌, Some, map, take}
use Rattle.std.specs.Prelude.{slice_get}
use Rattle.grid_screen.proofs.alike.spread.Given as goal

abbrev pub invariant-loop-group : goal.invariant-loop-group
invariant-loop-group l = map (λ finding. Some finding) l.findings ≡ map (slice_get l.found) (take l.group-index l.groups)
