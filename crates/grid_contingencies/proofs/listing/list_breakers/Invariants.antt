use Rattle.std.proofs.Common.{◌≡◌, take}
use Rattle.std.specs.Prelude.{flat_map}
use Rattle.grid_structure.specs.Sites.{levels}
use Rattle.grid_contingencies.specs.Pieces.{breakers_of}
use Rattle.grid_contingencies.proofs.listing.list_breakers.Given as goal

abbrev pub invariant-loop-place : goal.invariant-loop-place
invariant-loop-place l = l.ids ≡ flat_map (λ level. breakers_of level.switches) (take l.place (levels l.structure))
