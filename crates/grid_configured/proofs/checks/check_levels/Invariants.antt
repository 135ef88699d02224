use Rattle.std.proofs.Common.{◌≡◌, ◌≤◌, [], drop, take}
use Rattle.grid_configured.specs.Checks.{each_check, ids_of, level_check}
use Rattle.grid_configured.specs.Standing.{Stands}
use Rattle.grid_configured.proofs.checks.check_levels.Given as goal

-- the levels so far stand, and what is left to check
abbrev pub invariant-loop-i : goal.invariant-loop-i
invariant-loop-i l = record {
  stands : Stands (ids_of (take l.i l.levels)) (take l.i l.levels) [] l.standing;
  few : l.standing.switches ≤ 200000;
  left : each_check level_check (take l.i l.levels) l.i (drop l.i l.levels) ≡ each_check level_check [] 0 l.levels;
}
