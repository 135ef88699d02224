use Rattle.std.proofs.Common.{◌≡◌, take}
use Rattle.grid_powers.specs.Listed.{Listed}
use Rattle.grid_watts.specs.Nodes.{listed_row}
use Rattle.grid_watts.proofs.RowWatts.{AreRead}
use Rattle.grid_board.proofs.comparing.same_watts.Given as goal

-- the first watts are those that were read so far
abbrev pub invariant-loop-place : goal.invariant-loop-place
invariant-loop-place l = (listed : Listed) → l.row ≡ listed_row listed l.level → AreRead listed l.placed l.place (take l.place l.watts) l.behind
