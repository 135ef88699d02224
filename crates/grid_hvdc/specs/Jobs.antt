-- A job with HVDC lines, or its first fault.
use Rattle.std.specs.Prelude.{ℕ, List, [], ◌∷◌, Option, Some, None, Result, Ok, Err, codes}
use Rattle.serde_json.specs.Data.{Data}
use Rattle.grid_json.specs.declared.fault.Fault.{Fault}
use Rattle.grid_json.specs.declared.whole.JobFault.{JobFault}
use Rattle.grid_json.specs.declared.whole.JobFault.TheVariants.{BadJson}
use Rattle.grid_value.specs.Bytes.{reading}
use Rattle.grid_json.specs.Reading.{◌>>=◌, id_at, array_at, member_at, only_at, under}
use Rattle.grid_json.specs.Whole.{whole_job_at, or_bad_job}
use Rattle.grid_hvdc.specs.declared.HvdcJob.{HvdcJob}
use Rattle.grid_hvdc.specs.declared.HvdcLine.{HvdcLine}
use Rattle.grid_hvdc.specs.Checks.{lines_check}

unfoldable pub line_at : Data → Result HvdcLine Fault
line_at d = do
  _ ← only_at (codes "id" ∷ codes "station1" ∷ codes "station2" ∷ []) d
  id ← member_at id_at (codes "id") d
  station1 ← member_at id_at (codes "station1") d
  station2 ← member_at id_at (codes "station2") d
  Ok (record { id = id; station1 = station1; station2 = station2 })

-- the job is read whole before the lines; after all are read, the lines are held against the loaded network
unfoldable pub hvdc_at : Data → Result HvdcJob Fault
hvdc_at d = do
  _ ← only_at (codes "job" ∷ codes "hvdc" ∷ []) d
  job ← member_at whole_job_at (codes "job") d
  lines ← member_at (array_at line_at) (codes "hvdc") d
  _ ← under (codes "hvdc") (lines_check job.network [] 0 lines)
  Ok (record { job = job; lines = lines })

abbrev pub hvdc_job_in : Option Data → Result HvdcJob JobFault
hvdc_job_in None = Err BadJson
hvdc_job_in (Some d) = or_bad_job (hvdc_at d)

-- BadJson where the bytes spell no JSON value, else the first fault with its place, else the job with its lines
unfoldable pub hvdc_job_of : List ℕ → Result HvdcJob JobFault
hvdc_job_of bytes = hvdc_job_in (reading bytes)
