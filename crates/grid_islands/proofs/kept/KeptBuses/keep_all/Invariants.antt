use Rattle.std.proofs.Common.{◌≤◌, length}
use Rattle.grid_islands.specs.Kept.{AreBusesOf, AreKeptBefore}
use Rattle.grid_islands.proofs.kept.KeptBuses.keep_all.Given as goal

abbrev pub invariant-loop-place : goal.invariant-loop-place
invariant-loop-place l = record {
  kept : AreBusesOf l.structure l.self;
  every : AreKeptBefore l.structure l.states.opened l.place l.self;
  long : l.place ≤ length l.self.levels;
}
