use Rattle.std.proofs.Common.{◌≡◌, Some, map, length}
use Rattle.std.specs.Option.{option_copied, option_map}
use Rattle.grid_jsonl.specs.Borrowed.{step_in}
use Rattle.grid_jsonl.specs.Lines.{texts, heard_for}
use Rattle.grid_jsonl.proofs.cursors.Heard.next.Given as goal

-- nothing of what was passed is heard
abbrev pub invariant-loop-line : goal.invariant-loop-line
invariant-loop-line l = record {
  wanted : option_copied l.self-inside.wanted ≡ Some l.wanted;
  rest : texts (heard_for l.self-inside.listener (Some l.wanted) (option_map step_in l.self-inside.step) l.self-inside.events.now (map step_in l.self-inside.rest.now)) ≡ l.fn.self;
}

abbrev pub decreases-loop-line : goal.decreases-loop-line
decreases-loop-line l = length l.self-inside.rest.now
