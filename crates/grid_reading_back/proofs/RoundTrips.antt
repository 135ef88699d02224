-- A job that was read and printed is read back as that job.
use Rattle.std.proofs.Common.{◌≡◌, ℕ, List, Ok}
use Rattle.grid_json.specs.declared.whole.Job.{Job}
use Rattle.grid_json.specs.Whole.{job_of}
use Rattle.grid_print.specs.Job.{job_text}
use Rattle.grid_reading_back.proofs.Texts.{printed_back}
use Rattle.grid_reading_back.proofs.ReadableJobs.{texts_received, read_jobs_are_readable}
use Rattle.grid_reading_back.proofs.Written.{job_spelled}

pub read_jobs_return : (bytes : List ℕ) (job : Job) → job_of bytes ≡ Ok job → job_of (job_text job) ≡ Ok job
read_jobs_return bytes job is = printed_back job (read_jobs_are_readable bytes job is) (job_spelled job (texts_received bytes job is))
