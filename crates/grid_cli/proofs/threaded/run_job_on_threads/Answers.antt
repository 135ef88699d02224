use Rattle.std.proofs.Common.{sym, subst, false}
use Rattle.grid_core.proofs.MachineSteps.{each_ok}
use Rattle.grid_workers.specs.Runs.{IsRun}
use Rattle.grid_cli.proofs.ThreadReports.{came_of_run}
use Rattle.grid_cli.proofs.threaded.run_job_on_threads.Goals as goal

pub returns : goal.returns
returns g c =
    let history = c.into_world.result in
    let run = subst (λ s. IsRun c.args.job.network c.args.job.scripts c.in_ok-run.run'.board s) c.if-run.false c.in_ok-run.ensures in
    let same = subst (λ h. IsRun c.args.job.network c.args.job.scripts h false) (sym c.into_world.ensures) run in
    each_ok c.outcome.result c.outcome.ensures.outcome (λ came is. came_of_run c.args.job history came same is)
