-- Jobs that are read back as they were written.
use Rattle.std.specs.Prelude.{◌≡◌, ◌≤◌, ℕ, pos, true, List, Option, length, map, All, IfSome}
use Rattle.grid_events.specs.declared.filter.Filter.{Filter}
use Rattle.grid_requests.specs.declared.request.Request.{Request}
use Rattle.grid_structure.specs.Network.{Network}
use Rattle.grid_structure.specs.Soundness.{IsSound}
use Rattle.grid_json.specs.declared.job.JobDraft.{JobDraft}
use Rattle.grid_json.specs.declared.whole.Job.{Job}
use Rattle.grid_json.specs.Job.{max_listeners, max_workers, max_commands, command_total, is_order}
use Rattle.grid_print.specs.Laws.{network_draft}
use Rattle.grid_print.specs.Readable.{IsId, IsReadable}
use Rattle.grid_reading_back.specs.Requests.{IsReadableRequest}

-- the variant of a listener is an id
abbrev pub IsReadableFilter : Filter → Type 0
IsReadableFilter f = IfSome f.variant IsId

abbrev pub IsReadableScript : List Request → Type 0
IsReadableScript script = All IsReadableRequest script

-- each worker's number stands as often as its script has commands, and no other number stands
abbrev pub IsScheduleOf : List (List Request) → List ℕ → Type 0
IsScheduleOf scripts order = is_order (map length scripts) (map (λ n. pos n) order) ≡ true

-- the listeners, the scripts and the order are as few as a job may have, with ids that are ids and numbers that fit
pub record HasReadableParts (filters : List Filter) (scripts : List (List Request)) (order : Option (List ℕ)) : Type 0 where
  pub few_filters : length filters ≤ max_listeners
  pub each_filter : All IsReadableFilter filters
  pub few_scripts : length scripts ≤ max_workers
  pub few_commands : command_total scripts ≤ max_commands
  pub each_script : All IsReadableScript scripts
  pub scheduled : IfSome order (IsScheduleOf scripts)

-- the network is sound too
pub record IsReadableJob (job : Job) : Type 0 where
  pub network : IsReadable job.network
  pub sound : IsSound job.network
  pub parts : HasReadableParts job.filters job.scripts job.order

-- what the job is before its network is loaded
abbrev pub job_draft : Network → List Filter → List (List Request) → Option (List ℕ) → JobDraft
job_draft net filters scripts order = record { network = network_draft net; filters = filters; scripts = scripts; order = order }
