use Rattle.std.proofs.Common.{◌≡◌, take}
use Rattle.grid_contingencies.proofs.Once.{once_before, HasJust}
use Rattle.grid_contingencies.proofs.making.each_once.Given as goal

abbrev pub invariant-loop-item : goal.invariant-loop-item
invariant-loop-item l = record {
  once : l.each ≡ once_before l.items l.item-index;
  just : HasJust l.each (take l.item-index l.items);
}
