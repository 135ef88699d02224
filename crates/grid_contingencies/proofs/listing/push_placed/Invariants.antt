use Rattle.std.proofs.Common.{◌≡◌, ◌++◌, take}
use Rattle.grid_contingencies.specs.Pieces.{placed_of}
use Rattle.grid_contingencies.proofs.listing.push_placed.Given as goal

abbrev pub invariant-loop-placed : goal.invariant-loop-placed
invariant-loop-placed l = l.ids ≡ l.initial.ids ++ placed_of l.kind (take l.placed-index l.placed)
