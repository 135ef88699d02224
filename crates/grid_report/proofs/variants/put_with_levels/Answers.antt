use Rattle.std.proofs.Common.{ℕ, List}
use Rattle.std.specs.List.{flat_map}
use Rattle.std.specs.Io.KnownBytes.{append_known}
use Rattle.grid_lemmas.proofs.Results.{on_err}
use Rattle.grid_report.proofs.Begun.{in_first}
use Rattle.grid_report.proofs.variants.put_with_levels.Goals as goal

pub returns-in_err-put-clause-err : goal.returns-in_err-put-clause-err
returns-in_err-put-clause-err g c =
    on_err c.from_residual.result (in_first (append_known (g.K.Sink.written c.args.sink.now) c.args.pieces.now) (g.K.Sink.written c.put.new.sink) c.args.line.now (flat_map (λ (t : List ℕ). t) c.args.levels.now) (rw c.as_bytes.ensures at c.in_err-put.ensures.err))
