use Rattle.std.proofs.Common.{subst}
use Rattle.std.proofs.lemmas.Result.{on_ok_weaker}
use Rattle.std.specs.Io.KnownBytes.{Appends}
use Rattle.grid_source.specs.Whole.{IsBegun}
use Rattle.grid_report.proofs.Begun.{on_err_map}
use Rattle.grid_cli.proofs.ScreenAnswers.{one_part}
use Rattle.grid_cli.proofs.findings.write_part.Goals as goal

pub returns-clause-ok : goal.returns-clause-ok
returns-clause-ok g c =
    on_ok_weaker c.write_parts.result (subst (Appends (g.K.Sink.written c.args.sink.now) (g.K.Sink.written c.write_parts.new.sink)) (one_part c.args.layout c.args.part)) c.write_parts.ensures.ok

pub returns-clause-err : goal.returns-clause-err
returns-clause-err g c =
    on_err_map c.write_parts.result (subst (λ t. IsBegun (g.K.Sink.written c.args.sink.now) t (g.K.Sink.written c.write_parts.new.sink)) (one_part c.args.layout c.args.part)) c.write_parts.ensures.err
