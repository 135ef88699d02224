use Rattle.std.proofs.Common.{◌≡◌, take, length}
use Rattle.std.specs.Prelude.{flat_map}
use Rattle.grid_contingencies.specs.Made.{made_by}
use Rattle.grid_contingencies.proofs.making.count_made.Given as goal

abbrev pub invariant-loop-item : goal.invariant-loop-item
invariant-loop-item l = l.count ≡ length (flat_map (made_by l.structure) (take l.item-index l.item-items))
