use Rattle.std.proofs.Common.{◌≡◌, ◌≤◌, length}
use Rattle.grid_configured.specs.Reports.{replies_of}
use Rattle.grid_report.proofs.ScriptCursors.{made, Cursors}
use Rattle.grid_configured.proofs.OrderSteps.{history_at}
use Rattle.grid_configured.proofs.replay.run.Given as goal

-- the steps so far with their replies, and how far each worker has come
abbrev pub invariant-loop-worker : goal.invariant-loop-worker
invariant-loop-worker l = record {
  within : l.worker-index ≤ length l.order;
  world : l.world ≡ history_at l.fn.world.network l.scripts l.order l.worker-index;
  replies : l.replies ≡ replies_of l.fn.world.network (made l.scripts l.order l.worker-index);
  cursors : Cursors l.scripts l.order l.worker-index l.cursors.items;
}
