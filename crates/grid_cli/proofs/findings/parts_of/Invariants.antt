use Rattle.std.proofs.Common.{◌≡◌, ◌+◌, take, length}
use Rattle.std.specs.List.{flat_map}
use Rattle.grid_jsonl.specs.Outcomes.{lines}
use Rattle.grid_cli.specs.Findings.{case_state, list_objects, list_text, part_lines, part_text, told_count}
use Rattle.grid_cli.proofs.findings.parts_of.Given as goal

-- what is told of the contingencies so far
abbrev pub invariant-loop-contingency : goal.invariant-loop-contingency
invariant-loop-contingency l = record {
  placed : l.place ≡ l.first + length l.yielded;
  text : flat_map part_text l.parts.items ≡ list_text l.sight.look.format l.sight.look.only (case_state l.sight.case.now) (take (length l.yielded) l.piece);
  lined : flat_map part_lines l.parts.items ≡ lines (list_objects l.sight.look.format l.sight.look.only (case_state l.sight.case.now) l.first (take (length l.yielded) l.piece));
  count : length l.parts.items ≡ told_count l.sight.look.only (case_state l.sight.case.now) (take (length l.yielded) l.piece);
}
