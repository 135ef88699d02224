use Rattle.std.proofs.Common.{◌≡◌, take}
use Rattle.std.specs.List.{flat_map}
use Rattle.std.specs.Io.KnownBytes.{Appends, append_known}
use Rattle.grid_report.proofs.report.write_blocks.Given as goal

abbrev pub invariant-loop-block : goal.invariant-loop-block
invariant-loop-block g l = record {
  so_far : Appends (g.K.Sink.written l.fn.sink) (append_known (g.K.Sink.written l.sink) l.pieces) (flat_map g.T.Shown.shown (take l.block-index l.blocks));
  same : g.K.Sink.faults l.sink ≡ g.K.Sink.faults l.fn.sink;
}
