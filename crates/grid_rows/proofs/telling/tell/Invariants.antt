use Rattle.std.proofs.Common.{◌≡◌}
use Rattle.grid_rows.proofs.telling.tell.Given as goal

abbrev pub invariant-loop-request : goal.invariant-loop-request
invariant-loop-request g l = l.world.workers ≡ 1
