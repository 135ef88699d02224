use Rattle.std.proofs.Common.{◌≡◌, take}
use Rattle.std.specs.List.{count_by}
use Rattle.grid_jsonl.specs.Steps.{is_refused}
use Rattle.grid_jsonl.proofs.step.refused_count.Given as goal

-- those so far
abbrev pub invariant-loop-entry : goal.invariant-loop-entry
invariant-loop-entry l = l.count ≡ count_by (λ e. is_refused e.reply) (take l.entry-index l.journal)
