use Rattle.std.proofs.Common.{◌≡◌, ◌≤◌, take}
use Rattle.std.specs.Prelude.{count_by}
use Rattle.grid_cli.specs.Trials.{is_updated}
use Rattle.grid_cli.proofs.trial.count_updates.Given as goal

-- the events so far
abbrev pub invariant-loop-event : goal.invariant-loop-event
invariant-loop-event l = record {
  count : l.count ≡ count_by is_updated (take l.event-index l.events);
  few : l.count ≤ l.event-index;
}
