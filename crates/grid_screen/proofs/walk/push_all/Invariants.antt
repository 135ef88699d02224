use Rattle.std.proofs.Common.{◌≡◌, ◌++◌, take}
use Rattle.grid_screen.proofs.walk.push_all.Given as goal

abbrev pub invariant-loop-id : goal.invariant-loop-id
invariant-loop-id l = l.work ≡ l.initial.work ++ take l.id-index l.ids
