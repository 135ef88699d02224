-- What a trial counts: the made job, run in its order.
use Rattle.std.specs.Prelude.{ℕ, Bool, true, false, List, ◌++◌, length, sum_by, count_by, codes, decimal}
use Rattle.grid_events.specs.declared.event.Event.{Event}
use Rattle.grid_events.specs.declared.event.Event.TheVariants as events
use Rattle.grid_json.specs.declared.whole.Job.{Job}
use Rattle.grid_json.specs.Job.{command_total}
use Rattle.grid_make.specs.MadeJob.{made_job}
use Rattle.grid_report.specs.declared.outcome.Outcome.{Outcome}
use Rattle.grid_report.specs.Histories.{history_of, outcome_of}
use Rattle.grid_cli.specs.declared.trial.Trial.{Trial}
use Rattle.grid_cli.specs.Orders.{order_of}

-- what comes of a job that is run in its order
abbrev pub outcome_of_job : Job → Outcome
outcome_of_job job = outcome_of (history_of job.network job.scripts (order_of job)) job.filters

abbrev pub is_updated : Event → Bool
is_updated (events.Created id) = false
is_updated (events.Removed id) = false
is_updated (events.Updated variant switch opened) = true
is_updated (events.VariantCreated from to) = false
is_updated (events.VariantOverwritten from to) = false
is_updated (events.VariantRemoved name) = false

-- how often a switch was opened or closed
unfoldable pub operated_in : Outcome → ℕ
operated_in o = sum_by (λ e. count_by is_updated e.events) o.journal

-- how many buses the final views of all live variants have
unfoldable pub buses_in : Outcome → ℕ
buses_in o = sum_by (λ v. sum_by (λ view. length view.buses) v.views) o.views

unfoldable pub trial_of : ℕ → ℕ → Job → Trial
trial_of seed size job = record {
  seed = seed;
  size = size;
  commands = command_total job.scripts;
  operated = operated_in (outcome_of_job job);
  buses = buses_in (outcome_of_job job);
}

abbrev pub trial_head : ℕ → ℕ → List ℕ
trial_head seed size = codes "trial " ++ decimal seed ++ codes " " ++ decimal size ++ codes ": "

-- the line of a trial; the words stand for one as well
unfoldable pub trial_line : Trial → List ℕ
trial_line t =
    trial_head t.seed t.size ++ decimal t.commands ++ codes " commands, " ++ decimal t.operated ++ codes " switches operated, " ++ decimal t.buses ++ codes " buses\n"

unfoldable pub trial_text : ℕ → ℕ → List ℕ
trial_text seed size = trial_line (trial_of seed size (made_job seed size))
