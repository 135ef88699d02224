use Rattle.std.proofs.Common.{◌≡◌, [], ◌++◌, drop, take}
use Rattle.grid_configured.specs.Checks.{each_check, ids_of, line_check, line_ends, line_ids}
use Rattle.grid_configured.specs.Standing.{Stands}
use Rattle.grid_configured.proofs.checks.check_lines.Given as goal

-- the lines so far stand, and what is left to check
abbrev pub invariant-loop-i : goal.invariant-loop-i
invariant-loop-i l = record {
  stands : Stands (ids_of l.network.levels ++ line_ids (take l.i l.lines)) l.network.levels (line_ends (take l.i l.lines)) l.standing;
  left : each_check (line_check l.network.levels) (take l.i l.lines) l.i (drop l.i l.lines) ≡ each_check (line_check l.network.levels) [] 0 l.lines;
}
