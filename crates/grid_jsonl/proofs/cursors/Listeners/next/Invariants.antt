use Rattle.std.proofs.Common.{◌≡◌, ◌++◌, ◌+◌, ◌<◌, map, length}
use Rattle.std.specs.Prelude.{◌^◌}
use Rattle.grid_jsonl.specs.Borrowed.{step_in}
use Rattle.grid_jsonl.specs.Outcomes.{listeners_from}
use Rattle.grid_jsonl.specs.Lines.{texts}
use Rattle.grid_jsonl.proofs.cursors.Listeners.next.Given as goal

-- the listeners that were passed hear nothing more
abbrev pub invariant-loop-line : goal.invariant-loop-line
invariant-loop-line l = record {
  counted : l.self-inside.number + length l.self-inside.filters.now < 2 ^ 64;
  rest : l.self-inside.heard ++ texts (listeners_from (map step_in l.self-inside.steps.now) l.self-inside.number l.self-inside.filters.now) ≡ l.fn.self;
}

abbrev pub decreases-loop-line : goal.decreases-loop-line
decreases-loop-line l = length l.self-inside.filters.now
