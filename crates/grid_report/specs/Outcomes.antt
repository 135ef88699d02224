-- The report of what came of a job, byte for byte.
use Rattle.std.specs.Prelude.{ℕ, suc, ◌==◌, List, [], ◌∷◌, ◌++◌, filter, codes, decimal}
use Rattle.std.specs.List.{flat_map, range_with_len}
use Rattle.grid_events.specs.declared.event.Event.{Event}
use Rattle.grid_events.specs.declared.filter.Filter.{Filter}
use Rattle.grid_events.specs.Filters.{matches}
use Rattle.grid_core.specs.declared.journal.Entry.{Entry}
use Rattle.grid_report.specs.declared.outcome.VariantView.{VariantView}
use Rattle.grid_report.specs.declared.outcome.Outcome.{Outcome}
use Rattle.grid_report.specs.Lines.{level_text}
use Rattle.grid_report.specs.Commands.{command_text}
use Rattle.grid_report.specs.Replies.{answer_text, detail_lines}
use Rattle.grid_report.specs.Events.{event_line}

-- the text of each item, which gets its number
unfoldable pub numbered : {X : Type 0} → (ℕ → X → List ℕ) → ℕ → List X → List ℕ
numbered text number [] = []
numbered text number (x ∷ rest) = text number x ++ numbered text (suc number) rest

-- the worker of each step, in the order of the steps
unfoldable pub order_line : List Entry → List ℕ
order_line journal = codes "order" ++ flat_map (λ e. codes " " ++ decimal e.worker) journal ++ codes "\n"

-- ---- workers

-- a step with its number and the working variant before it, and the lines below
unfoldable pub step_text : ℕ → Entry → List ℕ
step_text number e =
    decimal number ++ codes " " ++ e.variant ++ codes " " ++ command_text e.request ++ codes ": " ++ answer_text e.reply ++ codes "\n" ++ detail_lines e.request e.reply

unfoldable pub steps_by : ℕ → List Entry → List Entry
steps_by worker journal = filter (λ e. e.worker == worker) journal

unfoldable pub worker_line : ℕ → List ℕ
worker_line worker = codes "worker " ++ decimal worker ++ codes "\n"

-- a worker's steps, numbered from 1
unfoldable pub worker_text : List Entry → ℕ → List ℕ
worker_text journal worker = worker_line worker ++ numbered step_text 1 (steps_by worker journal)

-- ---- variants

unfoldable pub variant_line : List ℕ → List ℕ
variant_line name = codes "variant " ++ name ++ codes "\n"

-- a variant with the views of its levels
unfoldable pub variant_text : VariantView → List ℕ
variant_text v = variant_line v.name ++ flat_map level_text v.views

-- ---- listeners

-- the events that a filter matches, in order
unfoldable pub heard_in : Filter → List Entry → List Event
heard_in f journal = filter (matches f) (flat_map (λ e. e.events) journal)

unfoldable pub listener_line : ℕ → List ℕ
listener_line number = codes "listener " ++ decimal number ++ codes "\n"

unfoldable pub listener_text : List Entry → ℕ → Filter → List ℕ
listener_text journal number f = listener_line number ++ flat_map event_line (heard_in f journal)

-- ---- the report

-- the workers and the listeners are numbered from 0
unfoldable pub report_of : Outcome → List ℕ
report_of o =
    order_line o.journal
    ++ flat_map (worker_text o.journal) (range_with_len 0 o.workers)
    ++ flat_map variant_text o.views
    ++ numbered (listener_text o.journal) 0 o.filters
    ++ codes "end\n"
