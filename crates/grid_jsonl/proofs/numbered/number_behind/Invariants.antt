use Rattle.std.proofs.Common.{◌≡◌, ◌≤◌, length, take}
use Rattle.std.specs.Prelude.{◌==◌}
use Rattle.std.specs.List.{count_by}
use Rattle.grid_core.specs.declared.journal.Entry.{Entry}
use Rattle.grid_jsonl.proofs.numbered.number_behind.Given as goal

-- the steps that were passed are other workers'
abbrev pub invariant-loop-place : goal.invariant-loop-place
invariant-loop-place l = record {
  within : l.place ≤ length l.steps;
  others : count_by (λ (e : Entry). e.worker == l.worker) (take (length l.steps) l.journal) ≡ count_by (λ (e : Entry). e.worker == l.worker) (take l.place l.journal);
}

abbrev pub decreases-loop-place : goal.decreases-loop-place
decreases-loop-place l = l.place
