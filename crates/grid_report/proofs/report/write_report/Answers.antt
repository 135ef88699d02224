use Rattle.std.proofs.Common.{subst}
use Rattle.std.specs.Io.KnownBytes.{Appends, append_known}
use Rattle.grid_report.specs.Outcomes.{report_of}
use Rattle.grid_report.proofs.Begun.{on_err_map, at_end, none_waits}
use Rattle.grid_report.proofs.report.write_report.Goals as goal

pub returns-clause-err : goal.returns-clause-err
returns-clause-err g c =
    let start = g.K.Sink.written c.args.sink.now in
    let behind = append_known (g.K.Sink.written c.put_report.new.sink) c.put_report.new.pieces in
    let put : Appends start behind (report_of c.args.outcome.now) = subst (λ w. Appends w behind (report_of c.args.outcome.now)) (none_waits start c.empty-pieces.result c.empty-pieces.ensures) c.in_ok-put_report.ensures.ok in
    on_err_map c.finish.result (λ e. at_end start (g.K.Sink.written c.put_report.new.sink) (g.K.Sink.written c.finish.new.sink) c.put_report.new.pieces (report_of c.args.outcome.now) e.0 put e.1) c.finish.ensures.err
