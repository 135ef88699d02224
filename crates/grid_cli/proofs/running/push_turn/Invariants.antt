use Rattle.std.proofs.Common.{◌≡◌, ◌++◌, map, take}
use Rattle.grid_cli.proofs.running.push_turn.Given as goal

-- the worker's number, once for each command so far
abbrev pub invariant-loop : goal.invariant-loop
invariant-loop l = l.order ≡ l.fn.order ++ map (λ request. l.worker) (take l.index l.script)
