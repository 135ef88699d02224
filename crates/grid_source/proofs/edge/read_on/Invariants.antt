use Rattle.std.proofs.Common.{◌≡◌, length}
use Rattle.std.specs.Io.KnownBytes.{Keeps}
use Rattle.grid_source.proofs.edge.read_on.Given as goal

-- the buffer keeps its length, and an interrupted read takes nothing
abbrev pub invariant-tries : goal.invariant-tries
invariant-tries g l = record {
  room : length l.buffer ≡ length l.fn.buffer;
  kept : Keeps (g.R.Read.remaining l.fn.reader) (g.R.Read.remaining l.reader);
}
