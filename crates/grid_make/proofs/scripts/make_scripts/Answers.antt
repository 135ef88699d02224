use Rattle.std.proofs.Common.{rules, ◌≡◌, ◌*◌, ◌++◌}
use Rattle.grid_make.specs.Draws.{later}
use Rattle.grid_make.specs.MadeJob.{worker_scripts}
use Rattle.grid_make.proofs.Turns.{items_go_on, items_end}
use Rattle.grid_make.proofs.scripts.make_scripts.Goals as goal

pub loop-worker-preserved : goal.loop-worker-preserved
unfolding worker_scripts
loop-worker-preserved c =
    let one : c.push.new.self ≡ c.loop-worker.scripts ++ worker_scripts c.args.size c.loop-worker.worker c.loop-worker.draws = search rules in
    rw c.in_ok-make_script.ensures.draws (items_go_on (worker_scripts c.args.size) (later (4 * c.args.size)) c.loop-worker.worker 4 c.loop-worker.draws c.loop-worker.scripts c.push.new.self _ c.loop-worker-test.true one c.loop-worker.invariant)

pub returns : goal.returns
returns c = items_end (worker_scripts c.args.size) (later (4 * c.args.size)) c.loop-worker.worker 4 c.loop-worker.draws c.loop-worker.scripts _ c.loop-worker-test.false c.loop-worker.invariant
