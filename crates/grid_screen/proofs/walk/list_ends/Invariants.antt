use Rattle.std.proofs.Common.{take}
use Rattle.grid_screen.specs.Walks.{AreEnds}
use Rattle.grid_screen.proofs.walk.list_ends.Given as goal

abbrev pub invariant-loop-placed : goal.invariant-loop-placed
invariant-loop-placed l = AreEnds l.level l.labels (take l.placed-index l.placed) l.ends.items
