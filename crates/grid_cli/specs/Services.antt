-- What each form does: what it reads and what it writes of that, in one list.
use Rattle.std.specs.Prelude.{◌≡◌, ℕ, ⊤, List, [], Option, Some, None, Result}
use Rattle.grid_json.specs.declared.whole.Job.{Job}
use Rattle.grid_json.specs.declared.whole.JobFault.{JobFault}
use Rattle.grid_json.specs.Whole.{job_of}
use Rattle.grid_hvdc.specs.declared.HvdcJob.{HvdcJob}
use Rattle.grid_hvdc.specs.Jobs.{hvdc_job_of}
use Rattle.grid_contingencies.specs.declared.ScreenJob.{ScreenJob}
use Rattle.grid_contingencies.specs.Jobs.{screen_job_of}
use Rattle.grid_configured.specs.declared.network.ConfiguredJob.{ConfiguredJob}
use Rattle.grid_configured.specs.Jobs.{configured_job_of}
use Rattle.grid_print.specs.Job.{job_text, network_text}
use Rattle.grid_make.specs.MadeJob.{made_job}
use Rattle.grid_forms.specs.declared.words.Form.{Form}
use Rattle.grid_forms.specs.declared.words.Form.TheVariants.{Check, Replay, Run, Print, Hvdc, Screen, Configured, Make, Trial}
use Rattle.grid_cli.specs.Counts.{check_text}
use Rattle.grid_cli.specs.Orders.{replay_text, replay_warning, IsReport}
use Rattle.grid_cli.specs.Hvdc.{hvdc_text}
use Rattle.grid_cli.specs.Screen.{screen_text}
use Rattle.grid_cli.specs.Configured.{configured_job_text}
use Rattle.grid_cli.specs.Trials.{trial_text}

-- the text of a made job
unfoldable pub made_text : ℕ → ℕ → List ℕ
made_text seed size = job_text (made_job seed size)

-- A form reads a job of its kind, which is what some bytes are or their first fault; these are its texts, and this it
-- warns of. Or it reads nothing and writes a text.
pub data Service : Type 1 where
  Reads : (J : Type 0) → (List ℕ → Result J JobFault) → (J → List ℕ → Type 0) → (J → List ℕ) → Service
  Makes : List ℕ → Service

-- most forms tell the replies in their output, and warn of nothing
abbrev pub no_warning : {J : Type 0} → J → List ℕ
no_warning job = []

-- for `run` a text is what is written of some order of the job, and for every other form there is one text
abbrev pub service : Form → Service
service Check = Reads Job job_of (λ job text. text ≡ check_text job) no_warning
service (Replay layout) = Reads Job job_of (λ job text. text ≡ replay_text layout job) no_warning
service (Run layout) = Reads Job job_of (IsReport layout) no_warning
service Print = Reads Job job_of (λ job text. text ≡ network_text job.network) no_warning
service (Hvdc layout) = Reads HvdcJob hvdc_job_of (λ job text. text ≡ hvdc_text layout job) (λ job. replay_warning job.job)
service (Screen layout) = Reads ScreenJob screen_job_of (λ job text. text ≡ screen_text layout job) (λ job. replay_warning job.job)
service (Configured layout) = Reads ConfiguredJob configured_job_of (λ job text. text ≡ configured_job_text layout job) no_warning
service (Make seed size) = Makes (made_text seed size)
service (Trial seed size) = Makes (trial_text seed size)

abbrev pub IsMade : Service → Type 0
IsMade (Reads J read IsText warns) = ⊥
IsMade (Makes text) = ⊤

-- no input is read
abbrev pub ReadsNothing : Option Form → Type 0
ReadsNothing None = ⊤
ReadsNothing (Some form) = IsMade (service form)
