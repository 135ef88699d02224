use Rattle.std.proofs.Common.{◌≡◌, map, take}
use Rattle.grid_powers.specs.Listed.{Listed}
use Rattle.grid_watts.specs.Watts.{watts_at}
use Rattle.grid_watts.specs.Nodes.{listed_row}
use Rattle.grid_watts.proofs.RowWatts.{AreRead}
use Rattle.grid_cli.proofs.views.same_watts.Given as goal

-- what was read of the one row so far was read of the other one too
abbrev pub invariant-loop-placed : goal.invariant-loop-placed
invariant-loop-placed l =
    (listed other_listed : Listed) → l.fn.row ≡ listed_row listed l.level → l.fn.others ≡ listed_row other_listed l.level
    → AreRead listed l.placed-items l.placed-index (map (watts_at listed) (take l.placed-index l.placed-items)) l.behind × AreRead other_listed l.placed-items l.placed-index (map (watts_at listed) (take l.placed-index l.placed-items)) l.others_behind
