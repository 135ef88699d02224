use Rattle.std.proofs.Common.{◌≡◌, ◌≤◌, length}
use Rattle.grid_report.proofs.ScriptCursors.{Cursors}
use Rattle.grid_cli.proofs.OrderSteps.{history_at}
use Rattle.grid_cli.proofs.running.run.Given as goal

-- the steps so far, and how far each worker has come
abbrev pub invariant-loop-worker : goal.invariant-loop-worker
invariant-loop-worker l = record {
  within : l.worker-index ≤ length l.order;
  world : l.world ≡ history_at l.fn.network l.scripts l.order l.worker-index;
  cursors : Cursors l.scripts l.order l.worker-index l.cursors.items;
}
