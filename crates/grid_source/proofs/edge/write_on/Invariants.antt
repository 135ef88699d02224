use Rattle.std.specs.Io.KnownBytes.{Keeps}
use Rattle.grid_source.proofs.edge.write_on.Given as goal

-- an interrupted write appends nothing
abbrev pub invariant-tries : goal.invariant-tries
invariant-tries g l = Keeps (g.W.Write.contents l.fn.writer) (g.W.Write.contents l.writer)
