use Rattle.std.proofs.Common.{◌≡◌, take, None}
use Rattle.grid_level.specs.Passing.{nodes}
use Rattle.grid_connect.specs.Indexed.{marked_busbar}
use Rattle.grid_connect.proofs.joined.first_busbar.Given as goal

abbrev pub invariant-loop-placed : goal.invariant-loop-placed
invariant-loop-placed l = marked_busbar (nodes l.indices) l.marks (take l.placed-index l.placed-items) ≡ None
