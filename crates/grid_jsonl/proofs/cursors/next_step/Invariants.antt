use Rattle.std.proofs.Common.{◌≡◌, map, length}
use Rattle.grid_jsonl.specs.Borrowed.{step_in}
use Rattle.grid_jsonl.specs.Outcomes.{steps_by}
use Rattle.grid_jsonl.proofs.cursors.next_step.Given as goal

-- the steps that were passed are other workers'
abbrev pub invariant-loop-step : goal.invariant-loop-step
invariant-loop-step l = steps_by l.worker (map step_in l.fn.steps.now) ≡ steps_by l.worker (map step_in l.steps.now)

abbrev pub decreases-loop-step : goal.decreases-loop-step
decreases-loop-step l = length l.steps.now
