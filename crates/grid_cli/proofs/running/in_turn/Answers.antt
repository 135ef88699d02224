use Rattle.grid_report.specs.Histories.{in_turn}
use Rattle.grid_cli.proofs.WorkerTurns.{turn, turns_over}
use Rattle.grid_cli.proofs.running.in_turn.Goals as goal

pub loop-worker-preserved : goal.loop-worker-preserved
loop-worker-preserved c = rw (c.in_ok-push_turn.ensures, c.slice.ensures) (turn c.args.scripts.now c.loop-worker.worker c.index-scripts-worker.result c.loop-worker.order _ c.loop-worker-test.true c.index-scripts-worker.is c.loop-worker.invariant)

pub returns : goal.returns
unfolding in_turn
returns c = turns_over c.args.scripts.now c.loop-worker.worker c.loop-worker.order _ c.loop-worker-test.false c.loop-worker.invariant
