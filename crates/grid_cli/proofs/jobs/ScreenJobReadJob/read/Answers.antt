use Rattle.grid_cli.proofs.JobSchedules.{screen_known_scheduled}
use Rattle.grid_cli.proofs.jobs.ScreenJobReadJob.read.Goals as goal

pub returns-clause-ready : goal.returns-clause-ready
returns-clause-ready c = screen_known_scheduled c.args.bytes.now c.read_screen.result c.read_screen.ensures.job
