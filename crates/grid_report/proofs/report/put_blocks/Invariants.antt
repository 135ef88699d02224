use Rattle.std.proofs.Common.{◌≡◌, ◌++◌, ℕ, List}
use Rattle.std.specs.Io.KnownBytes.{Appends, append_known}
use Rattle.grid_report.proofs.report.put_blocks.Given as goal

-- a front was written or waits, and the rest is still to come
abbrev pub invariant-loop-text : goal.invariant-loop-text
invariant-loop-text g l = record {
  so_far : (front : List ℕ) × (g.B.Blocks.text l.fn.blocks ≡ front ++ g.B.Blocks.text l.blocks) × Appends (append_known (g.K.Sink.written l.fn.sink) l.fn.pieces) (append_known (g.K.Sink.written l.sink) l.pieces) front;
  same : g.K.Sink.faults l.sink ≡ g.K.Sink.faults l.fn.sink;
}

abbrev pub decreases-loop-text : goal.decreases-loop-text
decreases-loop-text g l = g.B.Blocks.left l.blocks
