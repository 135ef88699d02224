use Rattle.std.proofs.Common.{◌≡◌, take, map}
use Rattle.grid_json.specs.Job.{natural_of}
use Rattle.grid_json.proofs.order.workers_of.Given as goal

-- the numbers so far
abbrev pub invariant-loop-number : goal.invariant-loop-number
invariant-loop-number l = l.numbers ≡ map natural_of (take l.number-index l.order)
