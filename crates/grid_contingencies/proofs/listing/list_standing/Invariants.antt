use Rattle.std.proofs.Common.{◌≡◌, take}
use Rattle.std.specs.Prelude.{flat_map}
use Rattle.grid_structure.specs.Sites.{levels}
use Rattle.grid_contingencies.specs.Pieces.{placed_of}
use Rattle.grid_contingencies.proofs.listing.list_standing.Given as goal

abbrev pub invariant-loop-place : goal.invariant-loop-place
invariant-loop-place l = l.ids ≡ flat_map (λ level. placed_of l.kind level.placed) (take l.place (levels l.structure))
