use Rattle.std.proofs.Common.{◌≡◌, map, take}
use Rattle.grid_islands.specs.Spots.{buses_of_spots}
use Rattle.grid_islands.proofs.spots.spot_buses.Given as goal

abbrev pub invariant-loop-branch : goal.invariant-loop-branch
invariant-loop-branch l = l.ends ≡ map (buses_of_spots l.firsts l.kept) (take l.branch-index l.branches)
