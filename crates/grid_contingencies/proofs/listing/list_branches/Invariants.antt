use Rattle.std.proofs.Common.{◌≡◌, take}
use Rattle.grid_structure.specs.Sites.{branches}
use Rattle.grid_contingencies.specs.Pieces.{branches_of}
use Rattle.grid_contingencies.proofs.listing.list_branches.Given as goal

abbrev pub invariant-loop-place : goal.invariant-loop-place
invariant-loop-place l = l.ids ≡ branches_of l.kind (take l.place (branches l.structure))
