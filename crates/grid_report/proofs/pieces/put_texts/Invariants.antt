use Rattle.std.proofs.Common.{◌≡◌, ℕ, List, take}
use Rattle.std.specs.List.{flat_map}
use Rattle.std.specs.Io.KnownBytes.{Appends, append_known}
use Rattle.grid_report.proofs.pieces.put_texts.Given as goal

-- the texts so far were written or wait
abbrev pub invariant-loop-text : goal.invariant-loop-text
invariant-loop-text g l = record {
  so_far : Appends (append_known (g.K.Sink.written l.fn.sink) l.fn.pieces) (append_known (g.K.Sink.written l.sink) l.pieces) (flat_map (λ (t : List ℕ). t) (take l.text-index l.texts));
  same : g.K.Sink.faults l.sink ≡ g.K.Sink.faults l.fn.sink;
}
