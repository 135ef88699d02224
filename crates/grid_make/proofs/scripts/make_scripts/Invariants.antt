use Rattle.std.proofs.Common.{◌≡◌, ◌-◌, ◌*◌, ◌++◌}
use Rattle.grid_make.specs.Draws.{later, in_turn}
use Rattle.grid_make.specs.MadeJob.{worker_scripts}
use Rattle.grid_make.proofs.scripts.make_scripts.Given as goal

-- the scripts that are left make up what all make up
abbrev pub invariant-loop-worker : goal.invariant-loop-worker
invariant-loop-worker l = l.scripts ++ in_turn (worker_scripts l.size) (later (4 * l.size)) l.worker (4 - l.worker) l.draws ≡ in_turn (worker_scripts l.size) (later (4 * l.size)) 0 4 l.fn.draws
