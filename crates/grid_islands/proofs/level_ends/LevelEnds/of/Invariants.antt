use Rattle.std.proofs.Common.{◌≡◌, length}
use Rattle.grid_islands.specs.LevelEnds.{IsIndexBefore}
use Rattle.grid_islands.proofs.level_ends.LevelEnds.of.Given as goal

abbrev pub invariant-loop-place : goal.invariant-loop-place
invariant-loop-place l = record {
  index : IsIndexBefore l.branches l.place l.index;
  long : length l.index.lasts ≡ l.levels;
}
