use Rattle.std.proofs.Common.{◌≡◌, map, take}
use Rattle.grid_structure.specs.Sites.{branches}
use Rattle.grid_islands.specs.Spots.{spots_of_branch}
use Rattle.grid_islands.proofs.spots.network_spots.Given as goal

abbrev pub invariant-loop-place : goal.invariant-loop-place
invariant-loop-place l = l.list ≡ map (λ b. spots_of_branch l.structure b.shape) (take l.place (branches l.structure))
