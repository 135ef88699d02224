-- The job of some bytes, or its first fault.
use Rattle.std.specs.Prelude.{◌≡◌, ℕ, List, Option, Some, None, Result, Ok, Err}
use Rattle.serde_json.specs.Data.{Data}
use Rattle.grid_json.specs.declared.fault.Fault.{Fault}
use Rattle.grid_json.specs.declared.job.JobDraft.{JobDraft}
use Rattle.grid_json.specs.declared.whole.Job.{Job}
use Rattle.grid_json.specs.declared.whole.JobFault.{JobFault}
use Rattle.grid_json.specs.declared.whole.JobFault.TheVariants.{BadJson, BadJob, Memory}
use Rattle.grid_json.specs.Reading.{◌>>=◌}
use Rattle.grid_value.specs.Bytes.{reading}
use Rattle.grid_json.specs.Job.{draft_at}
use Rattle.grid_json.specs.Loading.{network_load}

-- the draft with its network loaded
unfoldable pub loaded : JobDraft → Result Job Fault
loaded draft = do
  network ← network_load draft.network
  Ok (record { network = network; filters = draft.filters; scripts = draft.scripts; order = draft.order })

-- both passes over a value: the first fault with its place, or else the job
unfoldable pub whole_job_at : Data → Result Job Fault
whole_job_at d = draft_at d >>= loaded

abbrev pub or_bad_job : {A : Type 0} → Result A Fault → Result A JobFault
or_bad_job (Ok x) = Ok x
or_bad_job (Err f) = Err (BadJob f.place f.reason)

abbrev pub draft_in : Option Data → Result JobDraft JobFault
draft_in None = Err BadJson
draft_in (Some d) = or_bad_job (draft_at d)

-- the first pass over the bytes
unfoldable pub draft_of : List ℕ → Result JobDraft JobFault
draft_of bytes = draft_in (reading bytes)

abbrev pub job_in : Result JobDraft JobFault → Result Job JobFault
job_in (Ok draft) = or_bad_job (loaded draft)
job_in (Err fault) = Err fault

-- both passes: BadJson where the bytes spell no JSON value, else the first fault with its place, else the job
unfoldable pub job_of : List ℕ → Result Job JobFault
job_of bytes = job_in (draft_of bytes)

-- What a function returned is what was wanted, unless memory ran out.
abbrev pub JobGives : {A : Type 0} → Result A JobFault → Result A JobFault → Type 0
JobGives (Ok x) wanted = wanted ≡ Ok x
JobGives (Err BadJson) wanted = wanted ≡ Err BadJson
JobGives (Err (BadJob place reason)) wanted = wanted ≡ Err (BadJob place reason)
JobGives (Err Memory) wanted = Unit {0}
