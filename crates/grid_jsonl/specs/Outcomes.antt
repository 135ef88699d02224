-- The lines of what came of a job.
use Rattle.std.specs.Prelude.{ℕ, suc, ◌==◌, List, [], ◌∷◌, ◌++◌, length, filter, map, codes}
use Rattle.std.specs.List.{flat_map, range_with_len}
use Rattle.serde_json.specs.Data.{Data, boolean, string}
use Rattle.grid_busview.specs.declared.BusView.{BusView}
use Rattle.grid_events.specs.declared.event.Event.{Event}
use Rattle.grid_events.specs.declared.event.Event.TheVariants as events
use Rattle.grid_events.specs.declared.filter.Filter.{Filter}
use Rattle.grid_events.specs.Filters.{matches}
use Rattle.grid_core.specs.declared.journal.Entry.{Entry}
use Rattle.grid_report.specs.declared.outcome.VariantView.{VariantView}
use Rattle.grid_report.specs.declared.outcome.Outcome.{Outcome}
use Rattle.grid_print.specs.Objects.{array_of, natural}
use Rattle.grid_print.specs.Job.{line_of}
use Rattle.grid_jsonl.specs.declared.line.Counts.{Counts}
use Rattle.grid_jsonl.specs.Trees.{ordered}
use Rattle.grid_jsonl.specs.Parts.{view_bus_value}
use Rattle.grid_jsonl.specs.Steps.{Step, steps, step_fields, refused_count}

-- the object of a line begins with its kind
abbrev pub object_of_kind : List ℕ → List (List ℕ × Data) → Data
object_of_kind kind fields = ordered ((codes "kind", string kind) ∷ fields)

-- the worker of each step, in the order of the steps
abbrev pub order_of : {A : Type 0} → (A → ℕ) → List A → Data
order_of worker steps = object_of_kind (codes "order") ((codes "order", array_of (λ s. natural (worker s)) steps) ∷ [])

unfoldable pub order_object : List Entry → Data
order_object journal = order_of (λ e. e.worker) journal

-- ---- workers

unfoldable pub command_object : Step → Data
command_object s = object_of_kind (codes "command") (step_fields s)

unfoldable pub steps_by : ℕ → List Step → List Step
steps_by worker all = filter (λ s. s.entry.worker == worker) all

unfoldable pub worker_objects : List Step → ℕ → List Data
worker_objects all worker = map command_object (steps_by worker all)

-- ---- variants

unfoldable pub variant_object : List ℕ → Data
variant_object name = object_of_kind (codes "variant") ((codes "variant", string name) ∷ [])

unfoldable pub level_object : List ℕ → BusView → Data
level_object name view = object_of_kind (codes "level")
    ((codes "variant", string name) ∷ (codes "level", string view.level) ∷ (codes "buses", array_of (view_bus_value view.level) view.buses) ∷ [])

-- a variant, and the bus view of each level
unfoldable pub variant_objects : VariantView → List Data
variant_objects v = variant_object v.name ∷ map (level_object v.name) v.views

-- ---- listeners

-- what an event says beside its word
unfoldable pub event_fields : Event → List (List ℕ × Data)
event_fields (events.Created id) = (codes "event", string (codes "created")) ∷ (codes "id", string id) ∷ []
event_fields (events.Removed id) = (codes "event", string (codes "removed")) ∷ (codes "id", string id) ∷ []
event_fields (events.Updated variant switch opened) =
    (codes "event", string (codes "updated")) ∷ (codes "variant", string variant) ∷ (codes "switch", string switch) ∷ (codes "open", boolean opened) ∷ []
event_fields (events.VariantCreated from to) = (codes "event", string (codes "variant_created")) ∷ (codes "from", string from) ∷ (codes "to", string to) ∷ []
event_fields (events.VariantOverwritten from to) = (codes "event", string (codes "variant_overwritten")) ∷ (codes "from", string from) ∷ (codes "to", string to) ∷ []
event_fields (events.VariantRemoved name) = (codes "event", string (codes "variant_removed")) ∷ (codes "variant", string name) ∷ []

-- an event that a listener heard, with its step
unfoldable pub event_object : ℕ → Step → Event → Data
event_object listener s event = object_of_kind (codes "event")
    ((codes "listener", natural listener)
    ∷ (codes "place", natural s.place)
    ∷ (codes "worker", natural s.entry.worker)
    ∷ (codes "step", natural s.number)
    ∷ event_fields event)

-- the events of a step that a filter matches
unfoldable pub heard_objects : ℕ → Filter → Step → List Data
heard_objects listener wanted s = map (event_object listener s) (filter (matches wanted) s.entry.events)

unfoldable pub listener_objects : List Step → ℕ → Filter → List Data
listener_objects all listener wanted = flat_map (heard_objects listener wanted) all

-- of each listener from a number on
unfoldable pub listeners_from : List Step → ℕ → List Filter → List Data
listeners_from all listener [] = []
listeners_from all listener (wanted ∷ rest) = listener_objects all listener wanted ++ listeners_from all (suc listener) rest

-- ---- the outcome

-- the last line, by what it counts
unfoldable pub end_of : Counts → Data
end_of c = object_of_kind (codes "end")
    ((codes "workers", natural c.workers)
    ∷ (codes "commands", natural c.commands)
    ∷ (codes "refused", natural c.refused)
    ∷ (codes "variants", natural c.variants)
    ∷ (codes "listeners", natural c.listeners) ∷ [])

unfoldable pub counts_of : Outcome → Counts
counts_of o = record {
  workers = o.workers;
  commands = length o.journal;
  refused = refused_count o.journal;
  variants = length o.views;
  listeners = length o.filters;
}

abbrev pub end_object : Outcome → Data
end_object o = end_of (counts_of o)

-- the workers and the listeners are numbered from 0
unfoldable pub objects : Outcome → List Data
objects o =
    order_object o.journal
    ∷ (flat_map (worker_objects (steps o.journal)) (range_with_len 0 o.workers)
    ++ flat_map variant_objects o.views
    ++ listeners_from (steps o.journal) 0 o.filters
    ++ end_object o ∷ [])

-- the lines of a list of objects, one after the other
abbrev pub lines : List Data → List ℕ
lines = flat_map line_of
