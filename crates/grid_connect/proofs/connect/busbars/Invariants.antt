use Rattle.std.proofs.Common.{◌≡◌, take, length}
use Rattle.grid_level.specs.Passing.{nodes}
use Rattle.grid_connect.proofs.Lists.{BusbarsTo}
use Rattle.grid_connect.proofs.connect.busbars.Given as goal

abbrev pub invariant-loop-placed : goal.invariant-loop-placed
invariant-loop-placed l = record {
  long : length l.marks.items ≡ length (nodes l.level);
  busbars : BusbarsTo (nodes l.level) (take l.placed-index l.placed-items) l.marks.items;
}
