use Rattle.std.proofs.Common.{◌≡◌, [], take, drop}
use Rattle.grid_json.specs.Seen.{Knows}
use Rattle.grid_hvdc.specs.Checks.{line_ids, line_stations, lines_check}
use Rattle.grid_hvdc.proofs.checks.check_lines.Given as goal

-- what the lines so far name, and what is left to check
abbrev pub invariant-loop-i : goal.invariant-loop-i
invariant-loop-i l = record {
  ids : Knows l.named.ids (line_ids (take l.i l.lines));
  stations : Knows l.named.stations (line_stations (take l.i l.lines));
  left : lines_check l.structure (take l.i l.lines) l.i (drop l.i l.lines) ≡ lines_check l.structure [] 0 l.lines;
}
