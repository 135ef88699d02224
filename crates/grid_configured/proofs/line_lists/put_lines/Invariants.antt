use Rattle.std.proofs.Common.{◌≡◌, take}
use Rattle.std.specs.Prelude.{map}
use Rattle.grid_configured.specs.Partial.{levels_with}
use Rattle.grid_configured.specs.Translation.{translated_line}
use Rattle.grid_configured.proofs.line_lists.put_lines.Given as goal

-- the lines so far, and the levels with their ends
abbrev pub invariant-loop-place : goal.invariant-loop-place
invariant-loop-place l = record {
  made : l.made ≡ map (translated_line l.network) (take l.place l.network.lines);
  levels : l.levels ≡ levels_with l.network (take l.place l.network.lines);
}
