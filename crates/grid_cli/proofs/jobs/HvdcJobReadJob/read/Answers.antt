use Rattle.grid_cli.proofs.JobSchedules.{hvdc_known_scheduled}
use Rattle.grid_cli.proofs.jobs.HvdcJobReadJob.read.Goals as goal

pub returns-clause-ready : goal.returns-clause-ready
returns-clause-ready c = hvdc_known_scheduled c.args.bytes.now c.read_hvdc.result c.read_hvdc.ensures.job
