use Rattle.std.proofs.Common.{◌≡◌, ◌++◌, drop}
use Rattle.grid_report.specs.Histories.{in_turn_from}
use Rattle.grid_cli.proofs.running.in_turn.Given as goal

-- the workers so far, and those that are left
abbrev pub invariant-loop-worker : goal.invariant-loop-worker
invariant-loop-worker l = l.order ++ in_turn_from l.worker (drop l.worker l.scripts) ≡ in_turn_from 0 l.scripts
