use Rattle.std.proofs.Common.{◌≡◌, map, take}
use Rattle.grid_watts.specs.Watts.{watts_at}
use Rattle.grid_watts.proofs.watts.listed_watts.Given as goal

abbrev pub invariant-loop-placed : goal.invariant-loop-placed
invariant-loop-placed l = l.values ≡ map (watts_at l.powers.listed) (take l.placed-index l.placed-items)
