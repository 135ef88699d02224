use Rattle.std.proofs.Common.{◌≡◌, ◌-◌, map}
use Rattle.grid_jsonl.specs.Borrowed.{step_in}
use Rattle.grid_jsonl.specs.Lines.{texts}
use Rattle.grid_jsonl.proofs.RemainingLines.{workers_for}
use Rattle.grid_jsonl.proofs.cursors.Workers.next.Given as goal

-- the workers that were passed have no step left
abbrev pub invariant-loop-step : goal.invariant-loop-step
invariant-loop-step l = texts (workers_for (map step_in l.self-inside.rest.now) l.self-inside.worker (map step_in l.self-inside.steps.now) l.self-inside.next l.self-inside.workers) ≡ l.fn.self

abbrev pub decreases-loop-step : goal.decreases-loop-step
decreases-loop-step l = l.self-inside.workers - l.self-inside.next
