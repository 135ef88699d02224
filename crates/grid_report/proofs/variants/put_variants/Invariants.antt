use Rattle.std.proofs.Common.{◌≡◌, map, take}
use Rattle.std.specs.List.{flat_map}
use Rattle.std.specs.Io.KnownBytes.{Appends, append_known}
use Rattle.grid_report.specs.Lines.{level_text}
use Rattle.grid_report.specs.Outcomes.{variant_text}
use Rattle.grid_report.proofs.variants.put_variants.Given as goal

-- the variants so far were written or wait, and the texts are those of the last one
abbrev pub invariant-loop-variant : goal.invariant-loop-variant
invariant-loop-variant g l = record {
  so_far : Appends (append_known (g.K.Sink.written l.fn.sink) l.fn.pieces) (append_known (g.K.Sink.written l.sink) l.pieces) (flat_map variant_text (take l.variant-index l.variants));
  texts : l.texts.items ≡ map level_text l.earlier;
  same : g.K.Sink.faults l.sink ≡ g.K.Sink.faults l.fn.sink;
}
