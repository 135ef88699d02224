use Rattle.std.proofs.Common.{◌≡◌, ◌++◌, take}
use Rattle.grid_contingencies.specs.Pieces.{breakers_of}
use Rattle.grid_contingencies.proofs.listing.push_breakers.Given as goal

abbrev pub invariant-loop-switch : goal.invariant-loop-switch
invariant-loop-switch l = l.ids ≡ l.initial.ids ++ breakers_of (take l.switch-index l.switches)
