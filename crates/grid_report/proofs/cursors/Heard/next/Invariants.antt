use Rattle.std.proofs.Common.{◌≡◌, ◌++◌, length, Some}
use Rattle.std.specs.List.{flat_map}
use Rattle.std.specs.Option.{option_copied}
use Rattle.grid_core.specs.declared.journal.Entry.{Entry}
use Rattle.grid_report.specs.Cursors.{lines_for}
use Rattle.grid_report.proofs.cursors.Heard.next.Given as goal

-- nothing of what was passed is heard
abbrev pub invariant-loop-event : goal.invariant-loop-event
invariant-loop-event l = record {
  wanted : option_copied l.self-inside.wanted ≡ Some l.wanted;
  rest : lines_for (Some l.wanted) (l.self-inside.events.now ++ flat_map (λ (e : Entry). e.events) l.self-inside.journal.now) ≡ l.fn.self;
}

abbrev pub decreases-loop-event : goal.decreases-loop-event
decreases-loop-event l = length l.self-inside.journal.now
