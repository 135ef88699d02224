-- What the form `configured` writes, and the jobs that it can run.
use Rattle.std.specs.Prelude.{ℕ, ◌≤◌, List, length, All}
use Rattle.grid_json.specs.Job.{max_workers}
use Rattle.grid_report.specs.Histories.{IsOrder, chosen_order}
use Rattle.grid_configured.specs.declared.network.ConfiguredJob.{ConfiguredJob}
use Rattle.grid_configured.specs.Checks.{IsTranslatable}
use Rattle.grid_configured.specs.Names.{IsConfiguredRequest}
use Rattle.grid_configured.specs.Texts.{Report, report_of}
use Rattle.grid_configured.specs.Reports.{history_of, report_after}
use Rattle.grid_configured.specs.Lines.{objects}
use Rattle.grid_jsonl.specs.Outcomes.{lines}
use Rattle.grid_forms.specs.declared.words.Layout.{Layout}
use Rattle.grid_cli.specs.Layouts.{in_layout}

-- the order that is given, or else the workers in turn
abbrev pub turns_of : ConfiguredJob → List ℕ
turns_of job = chosen_order job.scripts job.order

-- what is written of what came of a job with configured buses
unfoldable pub configured_in : Layout → Report → List ℕ
configured_in layout r = in_layout layout (report_of r) (lines (objects r))

-- of a job whose commands are run in its order
unfoldable pub configured_job_text : Layout → ConfiguredJob → List ℕ
configured_job_text layout job = configured_in layout (report_after (history_of job.network job.scripts (turns_of job)))

-- no fault is found in the network, the commands are those of such networks, and the order is one of few scripts
pub record IsRunnable (job : ConfiguredJob) : Type 0 where
  pub network : IsTranslatable job.network
  pub plain : All (All IsConfiguredRequest) job.scripts
  pub few : length job.scripts ≤ max_workers
  pub ordered : IsOrder job.scripts (turns_of job)
