use Rattle.std.proofs.Common.{◌≡◌, take, false}
use Rattle.grid_level.specs.Passing.{nodes}
use Rattle.grid_connect.specs.Indexed.{labelled_busbar}
use Rattle.grid_connect.proofs.joined.has_busbar.Given as goal

abbrev pub invariant-loop-placed : goal.invariant-loop-placed
invariant-loop-placed l = labelled_busbar (nodes l.level) l.labels l.own (take l.placed-index l.placed-items) ≡ false
