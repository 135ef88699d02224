use Rattle.std.proofs.Common.{◌≡◌, take}
use Rattle.grid_level.specs.Passing.{nodes}
use Rattle.grid_connect.specs.Indexed.{leaving_marked}
use Rattle.grid_connect.proofs.disconnect.leaving.Given as goal

abbrev pub invariant-loop-place : goal.invariant-loop-place
invariant-loop-place l = l.places ≡ leaving_marked (nodes l.indices) l.marks 0 (take l.place l.switch-items) (take l.place l.states)
