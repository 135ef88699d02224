use Rattle.std.proofs.Common.{◌≡◌, ◌++◌, ℕ, List, length}
use Rattle.std.specs.Io.KnownBytes.{Appends, append_known}
use Rattle.grid_report.specs.Outcomes.{report_of}
use Rattle.grid_report.proofs.parallel.write_report_on_threads.Given as goal

-- a front was written or waits, and the rest is still to come
abbrev pub invariant-loop-first : goal.invariant-loop-first
invariant-loop-first g l = record {
  so_far : (front : List ℕ) × (report_of l.outcome ≡ front ++ l.report) × Appends (g.K.Sink.written l.fn.sink) (append_known (g.K.Sink.written l.sink) l.pieces) front;
  same : g.K.Sink.faults l.sink ≡ g.K.Sink.faults l.fn.sink;
}

abbrev pub decreases-loop-first : goal.decreases-loop-first
decreases-loop-first g l = length l.report
