-- What workers on threads of their own make of a job.
use Rattle.std.specs.Prelude.{◌≡◌, ℕ, Option, Some, List}
use Rattle.grid_json.specs.declared.whole.Job.{Job}
use Rattle.grid_report.specs.declared.outcome.Outcome.{Outcome}
use Rattle.grid_report.specs.Histories.{IsOrder, history_of, outcome_of}
use Rattle.grid_forms.specs.declared.words.Form.{Form}
use Rattle.grid_forms.specs.declared.words.Form.TheVariants.{Run, Screen}
use Rattle.grid_cli.specs.declared.threaded.Served.{Served}
use Rattle.grid_cli.specs.declared.threaded.Served.TheVariants.{ByWorkers, ByScreening, ByOneThread}
use Rattle.grid_cli.specs.Forms.{on_one_thread}

-- it is what comes of the job in some order of its steps
abbrev pub IsOutcomeOf : Job → Outcome → Type 0
IsOutcomeOf job outcome = (order : List ℕ) × IsOrder job.scripts order × (outcome ≡ outcome_of (history_of job.network job.scripts order) job.filters)

-- the form is one of those that these threads serve
abbrev pub IsServed : Option Form → Served → Type 0
IsServed form (ByWorkers layout) = form ≡ Some (Run layout)
IsServed form (ByScreening layout) = form ≡ Some (Screen layout)
IsServed form ByOneThread = on_one_thread form ≡ form
