use Rattle.grid_cli.proofs.WorkerTurns.{came}
use Rattle.grid_cli.proofs.running.outcome.Goals as goal

pub returns-clause-outcome : goal.returns-clause-outcome
returns-clause-outcome c =
    came c.args.world c.args.filters c.leave.result c.args.workers c.in_ok-views.views c.leave.ensures c.requires c.in_ok-views.ensures.views
