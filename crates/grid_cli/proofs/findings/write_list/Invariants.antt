use Rattle.std.proofs.Common.{◌≡◌, ◌++◌, List, length}
use Rattle.std.specs.Io.KnownBytes.{Appends}
use Rattle.std.specs.Slice.Iter.{chunks_rest, chunks_size}
use Rattle.grid_contingencies.specs.declared.Contingency.{Contingency}
use Rattle.grid_cli.specs.Findings.{case_state, told_count, told_of}
use Rattle.grid_cli.proofs.findings.write_list.Given as goal

-- what is told of a front was written, and the rest is still to come
abbrev pub invariant-loop-piece : goal.invariant-loop-piece
invariant-loop-piece g l = record {
  can_next : (goal.iterator-loop-piece g).can_next l.piece-iterator;
  finite : (goal.iterator-loop-piece g).is_finite l.piece-iterator;
  size : chunks_size l.piece-iterator ≡ 1024;
  so_far : (front : List Contingency) × (l.list ≡ front ++ chunks_rest l.piece-iterator) × (l.first ≡ length front)
      × (l.told ≡ told_count l.screening.look.only (case_state l.screening.case.now) front) × Appends (g.K.Sink.written l.fn.sink) (g.K.Sink.written l.sink) (told_of l.screening.case.now l.screening.look 0 front);
  same : g.K.Sink.faults l.sink ≡ g.K.Sink.faults l.fn.sink;
}
