use Rattle.std.proofs.Common.{◌≡◌, ◌≤◌, ◌+◌, ◌-◌, drop, length}
use Rattle.grid_report.specs.Outcomes.{numbered, step_text, steps_by}
use Rattle.grid_report.proofs.cursors.Steps.next.Given as goal

-- the steps that were passed are other workers'
abbrev pub invariant-loop-self : goal.invariant-loop-self
invariant-loop-self l = record {
  counted : l.self-inside.number ≤ l.self-inside.place;
  rest : numbered step_text (l.self-inside.number + 1) (steps_by l.self-inside.worker (drop l.self-inside.place l.self-inside.journal.now)) ≡ l.fn.self;
}

abbrev pub decreases-loop-self : goal.decreases-loop-self
decreases-loop-self l = length l.self-inside.journal.now - l.self-inside.place
