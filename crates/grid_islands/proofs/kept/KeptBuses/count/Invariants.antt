use Rattle.std.proofs.Common.{◌≡◌, ◌<◌, ◌^◌}
use Rattle.grid_structure.specs.Sites.{levels}
use Rattle.grid_islands.specs.Numbering.{counts_before}
use Rattle.grid_islands.proofs.kept.KeptBuses.count.Given as goal

abbrev pub invariant-loop-place : goal.invariant-loop-place
invariant-loop-place l = record {
  counted : l.counts ≡ counts_before l.states.opened (levels l.structure) l.place;
  few : l.counts.count < 2 ^ 32;
}
