-- A printed job is read back as that job.
use Rattle.std.specs.Prelude.{◌≡◌, ℕ, List, Some, Ok}
use Rattle.grid_value.specs.Bytes.{reading}
use Rattle.grid_json.specs.declared.whole.Job.{Job}
use Rattle.grid_json.specs.Whole.{job_of}
use Rattle.grid_print.specs.Job.{job_value, job_text}
use Rattle.grid_reading_back.specs.Jobs.{IsReadableJob}
use Rattle.grid_reading_back.specs.Spelling.{IsSpelled}

-- the text of a job that was read is read as that job
abbrev pub ReadJobsReturn : Type 0
ReadJobsReturn = (bytes : List ℕ) (job : Job) → job_of bytes ≡ Ok job → job_of (job_text job) ≡ Ok job

-- so is the text of each readable job whose ids are UTF-8 and whose numbers fit 64 bits
abbrev pub PrintedJobsAreRead : Type 0
PrintedJobsAreRead = (job : Job) → IsReadableJob job → IsSpelled (job_value job.network job.filters job.scripts job.order) → job_of (job_text job) ≡ Ok job

-- and each bytes that spell the value of a readable job
abbrev pub SpelledJobsAreRead : Type 0
SpelledJobsAreRead = (bytes : List ℕ) (job : Job) → IsReadableJob job → reading bytes ≡ Some (job_value job.network job.filters job.scripts job.order) → job_of bytes ≡ Ok job

-- a job that was read is readable
abbrev pub ReadJobsAreReadable : Type 0
ReadJobsAreReadable = (bytes : List ℕ) (job : Job) → job_of bytes ≡ Ok job → IsReadableJob job
