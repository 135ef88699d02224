use Rattle.grid_cli.proofs.JobSchedules.{configured_runnable}
use Rattle.grid_cli.proofs.jobs.ConfiguredJobReadJob.read.Goals as goal

pub returns-clause-ready : goal.returns-clause-ready
returns-clause-ready c =
    let e = c.read_configured.ensures in
    configured_runnable c.read_configured.result e.network e.requests e.few e.order
