use Rattle.std.proofs.Common.{◌≡◌, length}
use Rattle.std.specs.Prelude.{filter}
use Rattle.grid_events.specs.Filters.{matches}
use Rattle.grid_jsonl.proofs.cursors.next_event.Given as goal

-- the events that were passed are not wanted
abbrev pub invariant-loop-event : goal.invariant-loop-event
invariant-loop-event l = filter (matches l.wanted) l.fn.events.now ≡ filter (matches l.wanted) l.events.now

abbrev pub decreases-loop-event : goal.decreases-loop-event
decreases-loop-event l = length l.events.now
