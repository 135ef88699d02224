use Rattle.std.proofs.Common.{subst}
use Rattle.std.specs.Io.KnownBytes.{Appends, append_known}
use Rattle.grid_report.proofs.Begun.{on_err_map, at_end, none_waits}
use Rattle.grid_report.proofs.report.write_text.Goals as goal

pub returns-clause-err : goal.returns-clause-err
returns-clause-err g c =
    let start = g.K.Sink.written c.args.sink.now in
    let behind = append_known (g.K.Sink.written c.put_blocks.new.sink) c.put_blocks.new.pieces in
    let put : Appends start behind (g.B.Blocks.text c.args.blocks) = subst (λ w. Appends w behind (g.B.Blocks.text c.args.blocks)) (none_waits start c.empty-pieces.result c.empty-pieces.ensures) c.in_ok-put_blocks.ensures.ok in
    on_err_map c.finish.result (λ e. at_end start (g.K.Sink.written c.put_blocks.new.sink) (g.K.Sink.written c.finish.new.sink) c.put_blocks.new.pieces (g.B.Blocks.text c.args.blocks) e.0 put e.1) c.finish.ensures.err
