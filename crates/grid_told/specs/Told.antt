-- What the lines of an outcome tell.
use Rattle.std.specs.Prelude.{◌≡◌, ℕ, List, length, map, filter}
use Rattle.std.specs.List.{flat_map}
use Rattle.grid_events.specs.declared.event.Event.{Event}
use Rattle.grid_events.specs.declared.filter.Filter.{Filter}
use Rattle.grid_events.specs.Filters.{matches}
use Rattle.grid_requests.specs.declared.request.Request.{Request}
use Rattle.grid_core.specs.declared.reply.Reply.{Reply}
use Rattle.grid_core.specs.declared.journal.Entry.{Entry}
use Rattle.grid_report.specs.declared.outcome.Outcome.{Outcome}
use Rattle.grid_jsonl.specs.Steps.{Step, steps}

-- of a step, all but its events
pub record Said : Type 0 where
  pub worker : ℕ
  pub variant : List ℕ
  pub request : Request
  pub reply : Reply

abbrev pub said_of : Entry → Said
said_of e = record { worker = e.worker; variant = e.variant; request = e.request; reply = e.reply }

-- what a listener with this filter heard, each event with the place of its step
unfoldable pub heard_at : Filter → Step → List (ℕ × Event)
heard_at wanted s = map (λ e. (s.place, e)) (filter (matches wanted) s.entry.events)

unfoldable pub heard_by : List Step → Filter → List (ℕ × Event)
heard_by all wanted = flat_map (heard_at wanted) all

-- two outcomes have equal orders, and at each place equal working variants, requests and replies; equal counts of workers
-- and of listeners; equal live names and views; and each listener heard the same events of the same places
pub record TellAlike (o p : Outcome) : Type 0 where
  pub said : map said_of o.journal ≡ map said_of p.journal
  pub workers : o.workers ≡ p.workers
  pub listeners : length o.filters ≡ length p.filters
  pub views : o.views ≡ p.views
  pub heard : map (heard_by (steps o.journal)) o.filters ≡ map (heard_by (steps p.journal)) p.filters
