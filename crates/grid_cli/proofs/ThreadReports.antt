-- What is written of a job that ran on threads: the report of an order of its steps.
use Rattle.std.proofs.Common.{◌≡◌, refl, sym, ap, ◌∙◌, ℕ, List, [], length, Option, Some, None, Result, Ok, Err, false}
use Rattle.std.specs.Prelude.{slice_get, unwrap_or, OnOk, OnErr}
use Rattle.std.specs.Result.{IsErr}
use Rattle.std.specs.Io.KnownBytes.{Appends}
use Rattle.std.proofs.lemmas.List.{length-reverse}
use Rattle.grid_source.specs.Whole.{IsBegun}
use Rattle.grid_structure.specs.Network.{Network}
use Rattle.grid_requests.specs.declared.request.Request.{Request}
use Rattle.grid_core.specs.History.{History, Command, asked_by}
use Rattle.grid_json.specs.declared.whole.Job.{Job}
use Rattle.grid_report.specs.declared.pieces.ReportFault.{ReportFault}
use Rattle.grid_report.specs.declared.outcome.Outcome.{Outcome}
use Rattle.grid_report.specs.Histories.{AsksScripts, IsOrder, history_of, outcome_of, script_of, told_order, steps_of}
use Rattle.grid_report.proofs.Begun.{at_start}
use Rattle.grid_report.proofs.ScriptOrders.{counted, steps_told}
use Rattle.grid_workers.specs.Runs.{IsRun}
use Rattle.grid_forms.specs.declared.words.Layout.{Layout}
use Rattle.grid_cli.specs.Layouts.{outcome_text}
use Rattle.grid_cli.specs.Orders.{IsReport, IsScheduled, order_of, replay_text}
use Rattle.grid_cli.specs.Once.{HandsOver}
use Rattle.grid_cli.specs.Threaded.{IsOutcomeOf}

-- ---- the order of a run that is not short

script_is : (o : Option (List Request)) → unwrap_or o [] ≡ script_of o
unfolding script_of
script_is None = refl
script_is (Some script) = refl

asks_scripts : (network : Network) (scripts : List (List Request)) (history : History) → IsRun network scripts history false → AsksScripts scripts history.steps
asks_scripts network scripts history run worker = run.whole refl worker ∙ script_is (slice_get scripts worker)

is_order : (scripts : List (List Request)) (steps : List Command) → AsksScripts scripts steps → IsOrder scripts (told_order steps)
is_order scripts steps asks worker = counted worker steps ∙ sym (length-reverse (asked_by worker steps)) ∙ ap length (asks worker)

-- the history is that of the scripts in the order of its steps
is_history : (network : Network) (scripts : List (List Request)) (history : History) → IsRun network scripts history false → history ≡ history_of network scripts (told_order history.steps)
unfolding history_of
is_history network scripts history run =
    let steps : steps_of scripts (told_order history.steps) ≡ history.steps = steps_told scripts history.steps (asks_scripts network scripts history run) in
    ap (λ (o : Network). let h : History = record { origin = o; workers = history.workers; steps = history.steps } in h) run.origin
    ∙ ap (λ (n : ℕ). let h : History = record { origin = network; workers = n; steps = history.steps } in h) run.workers
    ∙ ap (λ (l : List Command). let h : History = record { origin = network; workers = length scripts; steps = l } in h) (sym steps)

pub came_of_run : (job : Job) (history : History) (came : Outcome) → IsRun job.network job.scripts history false → came ≡ outcome_of history job.filters → IsOutcomeOf job came
came_of_run job history came run is =
    (told_order history.steps, is_order job.scripts history.steps (asks_scripts job.network job.scripts history run), is ∙ ap (λ h. outcome_of h job.filters) (is_history job.network job.scripts history run))

-- ---- what was written

-- where nothing was written yet
pub unwritten : (written : Result (Unit {0}) ReportFault) (layout : Layout) (job : Job) (old : Option (List ℕ)) → IsScheduled job → IsErr written → HandsOver (IsReport layout job) old old written
unfolding replay_text
unwritten (Ok done) layout job old scheduled fails = absurd cc
unwritten (Err fault) layout job old scheduled fails = record { text = replay_text layout job; is = (order_of job, scheduled.ordered, refl); whole = tt; begun = at_start old (replay_text layout job) }

pub reported : (layout : Layout) (job : Job) (came : Outcome) (written : Result (Unit {0}) ReportFault) (old new : Option (List ℕ)) → IsOutcomeOf job came → OnOk written (Appends old new (outcome_text layout came))
    → OnErr written (IsBegun old (outcome_text layout came) new) → HandsOver (IsReport layout job) old new written
reported layout job came written old new is ok err = record { text = outcome_text layout came; is = (is.0, is.1, ap (outcome_text layout) is.2); whole = ok; begun = err }
