use Rattle.std.proofs.Common.{◌≡◌, ◌*◌, ◌^◌, ◌≤◌, take}
use Rattle.std.specs.Prelude.{sum_by, count_by}
use Rattle.grid_core.specs.declared.journal.Entry.{Entry}
use Rattle.grid_cli.specs.Trials.{is_updated}
use Rattle.grid_cli.proofs.trial.count_operated.Given as goal

-- the events so far
abbrev pub invariant-loop-entry : goal.invariant-loop-entry
invariant-loop-entry l = record {
  total : l.total ≡ sum_by (λ (e : Entry). count_by is_updated e.events) (take l.entry-index l.journal);
  few : l.total ≤ l.entry-index * 2 ^ 64;
}
