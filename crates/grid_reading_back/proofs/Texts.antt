-- The text of a job is read back as that job.
use Rattle.std.proofs.Common.{◌≡◌, Ok}
use Rattle.serde_json.specs.Data.{Data}
use Rattle.serde_json.specs.Written.{compact_text}
use Rattle.grid_json.specs.declared.whole.Job.{Job}
use Rattle.grid_json.specs.Whole.{job_of}
use Rattle.grid_print.specs.Job.{job_value, job_text}
use Rattle.grid_print.proofs.NewlineTexts.{line_returns}
use Rattle.grid_print.proofs.Wholes.{job_is_shallow}
use Rattle.grid_reading_back.specs.Jobs.{IsReadableJob}
use Rattle.grid_reading_back.specs.Spelling.{IsSpelled}
use Rattle.grid_reading_back.proofs.ValueTexts.{text_is_utf8, text_is_compact, text_is_in_order, texts_are_read}
use Rattle.grid_reading_back.proofs.Whole.{spelled_back}

pub printed_back : (job : Job) → IsReadableJob job → IsSpelled (job_value job.network job.filters job.scripts job.order) → job_of (job_text job) ≡ Ok job
unfolding job_text
printed_back job fits fine =
    let value : Data = job_value job.network job.filters job.scripts job.order in
    let back = texts_are_read value fine (job_is_shallow job.network job.filters job.scripts job.order) in
    spelled_back (job_text job) job fits (line_returns (compact_text value) value (text_is_utf8 value fine) (text_is_compact value fine) (text_is_in_order value fine) back)
