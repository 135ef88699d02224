-- What is still to come of a report's text.
use Rattle.std.specs.Prelude.{◌≡◌, ℕ, List, [], ◌++◌, Option, Some, None, filter, MatchOption, codes}
use Rattle.std.specs.List.{flat_map, range_with_len}
use Rattle.grid_events.specs.declared.event.Event.{Event}
use Rattle.grid_events.specs.declared.filter.Filter.{Filter}
use Rattle.grid_events.specs.Filters.{matches}
use Rattle.grid_report.specs.declared.plan.Block.{Block}
use Rattle.grid_report.specs.Events.{event_line}
use Rattle.grid_report.specs.Blocks.{block_text}
use Rattle.grid_report.specs.declared.outcome.Outcome.{Outcome}
use Rattle.grid_report.specs.Outcomes.{order_line, worker_text, numbered, listener_text}

-- the lines of the events that a filter matches; without a filter there are none
unfoldable pub lines_for : Option Filter → List Event → List ℕ
lines_for None events = []
lines_for (Some f) events = flat_map event_line (filter (matches f) events)

-- the next block is a front of the text that was still to come, and None says that none was
abbrev pub Gives : List ℕ → Option Block → List ℕ → Type 0
Gives before next after = MatchOption next ((before ≡ []) × (after ≡ [])) (λ block. before ≡ block_text block ++ after)

-- a report up to its variants, and behind them
abbrev pub front_of : Outcome → List ℕ
front_of o = order_line o.journal ++ flat_map (worker_text o.journal) (range_with_len 0 o.workers)

abbrev pub back_of : Outcome → List ℕ
back_of o = numbered (listener_text o.journal) 0 o.filters ++ codes "end\n"
