use Rattle.std.proofs.Common.{◌≡◌, drop, map, length}
use Rattle.grid_json.specs.Job.{counts_from}
use Rattle.grid_json.proofs.order.counts_agree.Given as goal

-- the workers that are left lead to what all lead to
abbrev pub invariant-loop-worker : goal.invariant-loop-worker
invariant-loop-worker l = counts_from l.worker (drop l.worker (map length l.scripts)) l.order ≡ counts_from 0 (map length l.scripts) l.order
