use Rattle.std.proofs.Common.{◌≡◌, ◌++◌, map, take}
use Rattle.grid_contingencies.specs.Made.{made_of}
use Rattle.grid_contingencies.proofs.making.push_made.Given as goal

abbrev pub invariant-loop-id : goal.invariant-loop-id
invariant-loop-id l = l.list ≡ l.initial.list ++ map (made_of l.role) (take l.id-index l.ids)
