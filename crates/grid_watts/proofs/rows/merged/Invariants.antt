use Rattle.std.proofs.Common.{◌≡◌, List}
use Rattle.grid_powers.specs.Listed.{Listed}
use Rattle.grid_watts.specs.Nodes.{listed_row}
use Rattle.grid_watts.proofs.RowWatts.{AreRead}
use Rattle.grid_watts.proofs.rows.merged.Given as goal

abbrev pub invariant-loop-placed : goal.invariant-loop-placed
invariant-loop-placed l = (listed : Listed) → l.fn.row ≡ listed_row listed l.level → AreRead listed l.placed-items l.placed-index l.values l.left
