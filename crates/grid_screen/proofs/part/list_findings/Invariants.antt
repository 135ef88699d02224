use Rattle.std.proofs.Common.{◌≡◌, map, take}
use Rattle.std.specs.Prelude.{zip}
use Rattle.grid_screen.specs.Starts.{finding_from}
use Rattle.grid_screen.proofs.part.list_findings.Given as goal

abbrev pub invariant-loop-place : goal.invariant-loop-place
invariant-loop-place l = l.findings ≡ map (λ pair. finding_from l.before pair.1 pair.0) (take l.place (zip l.ends l.figures))
