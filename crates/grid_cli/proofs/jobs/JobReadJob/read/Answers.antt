use Rattle.grid_cli.proofs.JobSchedules.{job_counted}
use Rattle.grid_cli.proofs.jobs.JobReadJob.read.Goals as goal

pub returns-clause-ready : goal.returns-clause-ready
returns-clause-ready c = job_counted c.args.bytes.now c.read_job.result c.read_job.ensures.job c.read_job.ensures.total
