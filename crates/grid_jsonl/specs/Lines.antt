-- For private clauses: the object of each line, and what is still to come.
use Rattle.std.specs.Prelude.{◌≡◌, ℕ, List, [], ◌∷◌, ◌++◌, filter, map, Option, None, Some, MatchOption}
use Rattle.grid_busview.specs.declared.BusView.{BusView}
use Rattle.grid_events.specs.declared.event.Event.{Event}
use Rattle.grid_events.specs.declared.filter.Filter.{Filter}
use Rattle.grid_events.specs.Filters.{matches}
use Rattle.serde_json.specs.Data.{Data}
use Rattle.grid_print.specs.Job.{line_of}
use Rattle.grid_jsonl.specs.declared.line.Line.{Line}
use Rattle.grid_jsonl.specs.declared.line.Line.TheVariants as those
use Rattle.grid_jsonl.specs.Steps.{Step}
use Rattle.grid_jsonl.specs.Borrowed.{step_in}
use Rattle.grid_jsonl.specs.Outcomes.{order_object, command_object, variant_object, level_object, event_object, listener_objects, end_object}

unfoldable pub line_object : Line → Data
line_object (those.Order journal) = order_object journal.now
line_object (those.Command step) = command_object (step_in step)
line_object (those.Variant name) = variant_object name.now
line_object (those.Level name view) = level_object name.now view.now
line_object (those.Heard listener step event) = event_object listener (step_in step) event.now
line_object (those.End outcome) = end_object outcome.now

abbrev pub line_text : Line → List ℕ
line_text line = line_of (line_object line)

-- the next line is the first of those that were still to come, and None says that none was
abbrev pub Gives : List (List ℕ) → Option Line → List (List ℕ) → Type 0
Gives before next after = MatchOption next ((before ≡ []) × (after ≡ [])) (λ line. before ≡ line_text line ∷ after)

-- the line of each object
abbrev pub texts : List Data → List (List ℕ)
texts objects = map line_of objects

-- ---- what is still to come

-- of a variant's levels; before the first variant there are none
unfoldable pub levels_for : Option (List ℕ) → List BusView → List Data
levels_for None views = []
levels_for (Some name) views = map (level_object name) views

-- of a step's events that a listener hears; before the first step there are none
unfoldable pub told_for : ℕ → Filter → Option Step → List Event → List Data
told_for listener wanted None events = []
told_for listener wanted (Some s) events = map (event_object listener s) (filter (matches wanted) events)

-- of what a listener hears of a step and of those behind it; before the first listener there is none
unfoldable pub heard_for : ℕ → Option Filter → Option Step → List Event → List Step → List Data
heard_for listener None step events rest = []
heard_for listener (Some wanted) step events rest = told_for listener wanted step events ++ listener_objects rest listener wanted
