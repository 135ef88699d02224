use Rattle.grid_reading_back.proofs.ReadableJobs.{read_jobs_are_readable}
use Rattle.grid_reading_back.proofs.laws.printed_jobs_are_read.Goals as goal

pub returns-clause-readable : goal.returns-clause-readable
returns-clause-readable c = read_jobs_are_readable
