-- The orders of a job's steps, and what is written and warned of the job in one.
use Rattle.std.specs.Prelude.{◌≡◌, ℕ, ◌≤◌, List, length}
use Rattle.grid_json.specs.declared.whole.Job.{Job}
use Rattle.grid_json.specs.Job.{max_workers, max_commands, command_total}
use Rattle.grid_core.specs.History.{History}
use Rattle.grid_core.specs.Journals.{journal_of}
use Rattle.grid_jsonl.specs.Steps.{warning_text}
use Rattle.grid_report.specs.declared.outcome.Outcome.{Outcome}
use Rattle.grid_report.specs.Histories.{IsOrder, chosen_order, history_of, outcome_of}
use Rattle.grid_forms.specs.declared.words.Layout.{Layout}
use Rattle.grid_cli.specs.Layouts.{outcome_text}

-- the job's own order, or else the first worker's commands, then the second's and so on
unfoldable pub order_of : Job → List ℕ
order_of job = chosen_order job.scripts job.order

-- a job has few workers, and its order is one of its scripts
pub record IsScheduled (job : Job) : Type 0 where
  pub few : length job.scripts ≤ max_workers
  pub ordered : IsOrder job.scripts (order_of job)

-- a job has few commands too
pub record IsCounted (job : Job) : Type 0 where
  pub scheduled : IsScheduled job
  pub few : command_total job.scripts ≤ max_commands

-- what comes of the job in an order of its steps
abbrev pub outcome_in : Job → List ℕ → Outcome
outcome_in job order = outcome_of (history_of job.network job.scripts order) job.filters

-- what is written of the job, run in its order
unfoldable pub replay_text : Layout → Job → List ℕ
replay_text layout job = outcome_text layout (outcome_in job (order_of job))

-- the text is what is written of the job in some order of its steps
abbrev pub IsReport : Layout → Job → List ℕ → Type 0
IsReport layout job text = (order : List ℕ) × IsOrder job.scripts order × (text ≡ outcome_text layout (outcome_in job order))

-- of a history's steps; nothing where none was refused
abbrev pub warning_after : History → List ℕ
warning_after history = warning_text (journal_of history.origin history.steps)

-- of a job that is run in its order
abbrev pub replay_warning : Job → List ℕ
replay_warning job = warning_after (history_of job.network job.scripts (order_of job))
