use Rattle.std.proofs.Common.{◌≡◌}
use Rattle.grid_jsonl.specs.Steps.{first_refused}
use Rattle.grid_jsonl.proofs.Steps.{refused_from}
use Rattle.grid_jsonl.proofs.step.first_refused.Given as goal

-- none before the place was refused
abbrev pub invariant-loop-place : goal.invariant-loop-place
invariant-loop-place l = refused_from l.journal l.place ≡ first_refused l.journal
