-- The report of a history: of scripts that are run in some order on a network.
use Rattle.std.specs.Prelude.{◌≡◌, ℕ, suc, ◌==◌, List, [], ◌∷◌, ◌++◌, Option, Some, None, length, map, reverse, take, slice_get, option_map, option_and_then, codes, decimal}
use Rattle.std.specs.List.{flat_map, filter_map, count_by, range_with_len}
use Rattle.grid_structure.specs.Network.{Network}
use Rattle.grid_structure.specs.Sites.{levels}
use Rattle.grid_events.specs.declared.filter.Filter.{Filter}
use Rattle.grid_requests.specs.declared.request.Request.{Request}
use Rattle.grid_core.specs.History.{Command, History, IsHistory, command, live, structure, asked_by}
use Rattle.grid_core.specs.Replies.{view, heard}
use Rattle.grid_core.specs.Journals.{journal_of}
use Rattle.grid_report.specs.declared.outcome.VariantView.{VariantView}
use Rattle.grid_report.specs.declared.outcome.Outcome.{Outcome}
use Rattle.grid_report.specs.Outcomes.{order_line, steps_by, heard_in, report_of}

-- ---- what comes of a history

-- the bus view of each level, by place
unfoldable pub variant_view : Network → List Command → List ℕ → VariantView
variant_view origin steps name = record {
  name = name;
  views = filter_map (view origin steps name) (range_with_len 0 (length (levels (structure origin steps))));
}

-- of the live variants, by byte order of their names
unfoldable pub variant_views : Network → List Command → List VariantView
variant_views origin steps = map (variant_view origin steps) (live steps)

unfoldable pub outcome_of : History → List Filter → Outcome
outcome_of history filters = record {
  journal = journal_of history.origin history.steps;
  workers = history.workers;
  views = variant_views history.origin history.steps;
  filters = filters;
}

-- ---- scripts in an order

-- a worker's next command, after these steps of workers
unfoldable pub next_of : List (List Request) → List ℕ → ℕ → Option Command
next_of scripts before worker =
    option_map (command worker) (option_and_then (λ script. slice_get script (count_by (λ w. w == worker) before)) (slice_get scripts worker))

-- the step at a place of an order: the k-th step of a worker is the k-th command of its script
unfoldable pub step_at : List (List Request) → List ℕ → ℕ → Option Command
step_at scripts order place = option_and_then (next_of scripts (take place order)) (slice_get order place)

-- the newest step stands first
unfoldable pub steps_of : List (List Request) → List ℕ → List Command
steps_of scripts order = reverse (filter_map (step_at scripts order) (range_with_len 0 (length order)))

unfoldable pub history_of : Network → List (List Request) → List ℕ → History
history_of origin scripts order = record { origin = origin; workers = length scripts; steps = steps_of scripts order }

-- the order that steps were made in
unfoldable pub told_order : List Command → List ℕ
told_order steps = reverse (map (λ step. step.worker) steps)

-- a worker beyond the scripts has none
unfoldable pub script_of : Option (List Request) → List Request
script_of None = []
script_of (Some script) = script

-- each worker asked just its script, and no other worker asked
abbrev pub AsksScripts : List (List Request) → List Command → Type 0
AsksScripts scripts steps = (worker : ℕ) → reverse (asked_by worker steps) ≡ script_of (slice_get scripts worker)

-- an order of scripts: each worker stands as often as its script has commands, and no other number stands
abbrev pub IsOrder : List (List Request) → List ℕ → Type 0
IsOrder scripts order = (worker : ℕ) → count_by (λ w. w == worker) order ≡ length (script_of (slice_get scripts worker))

-- these workers in turn, the first of which has this number, each as often as its script has commands
unfoldable pub in_turn_from : ℕ → List (List Request) → List ℕ
in_turn_from worker [] = []
in_turn_from worker (script ∷ rest) = map (λ request. worker) script ++ in_turn_from (suc worker) rest

-- the first worker's commands, then the second's and so on
unfoldable pub in_turn : List (List Request) → List ℕ
in_turn scripts = in_turn_from 0 scripts

-- the order that is given, or else the workers in turn
unfoldable pub chosen_order : List (List Request) → Option (List ℕ) → List ℕ
chosen_order scripts None = in_turn scripts
chosen_order scripts (Some order) = order

-- ---- the report

unfoldable pub report_text : Network → List (List Request) → List Filter → List ℕ → List ℕ
report_text origin scripts filters order = report_of (outcome_of (history_of origin scripts order) filters)

-- the steps of scripts are by workers that have one
abbrev pub OrdersMakeHistories : Type 0
OrdersMakeHistories = (origin : Network) (scripts : List (List Request)) (order : List ℕ) → IsHistory (history_of origin scripts order)

-- steps in which each worker asked its script are those of the scripts in the steps' order
abbrev pub OrderTellsSteps : Type 0
OrderTellsSteps = (scripts : List (List Request)) (steps : List Command) → AsksScripts scripts steps → steps_of scripts (told_order steps) ≡ steps

-- the first line of the report of a history tells the order of its steps
abbrev pub ReportShowsOrder : Type 0
ReportShowsOrder = (origin : Network) (steps : List Command) → order_line (journal_of origin steps) ≡ codes "order" ++ flat_map (λ worker. codes " " ++ decimal worker) (told_order steps) ++ codes "\n"

-- the report of scripts in an order of theirs has for each worker its script, in order
abbrev pub ReportShowsScripts : Type 0
ReportShowsScripts = (origin : Network) (scripts : List (List Request)) (order : List ℕ) → IsOrder scripts order → (worker : ℕ) → map (λ e. e.request) (steps_by worker (journal_of origin (steps_of scripts order))) ≡ script_of (slice_get scripts worker)

-- the steps of scripts in an order of theirs were made in that order
abbrev pub StepsTellOrder : Type 0
StepsTellOrder = (scripts : List (List Request)) (order : List ℕ) → IsOrder scripts order → told_order (steps_of scripts order) ≡ order

-- the workers in turn are such an order
abbrev pub InTurnIsOrder : Type 0
InTurnIsOrder = (scripts : List (List Request)) → IsOrder scripts (in_turn scripts)

-- a listener of a history hears just the events of its journal that its filter matches
abbrev pub HearsItsJournal : Type 0
HearsItsJournal = (f : Filter) (origin : Network) (steps : List Command) → heard_in f (journal_of origin steps) ≡ heard f origin steps
