use Rattle.std.proofs.Common.{◌≡◌, ◌<◌, ◌++◌, ℕ, List, length}
use Rattle.std.specs.Io.KnownBytes.{Appends, append_known}
use Rattle.grid_report.proofs.pieces.put_into.Given as goal

abbrev pub invariant-loop-rest : goal.invariant-loop-rest
invariant-loop-rest g l = record {
  below : length l.buffer.items < 4096;
  so_far : (front : List ℕ) × (l.bytes ≡ front ++ l.rest) × Appends (append_known (g.K.Sink.written l.fn.sink) l.fn.buffer.items) (append_known (g.K.Sink.written l.sink) l.buffer.items) front;
  same : g.K.Sink.faults l.sink ≡ g.K.Sink.faults l.fn.sink;
}

abbrev pub decreases-loop-rest : goal.decreases-loop-rest
decreases-loop-rest g l = length l.rest
