use Rattle.std.proofs.Common.{◌++◌, sym, ap, ◌∙◌}
use Rattle.std.specs.Io.KnownBytes.{append_known}
use Rattle.grid_lemmas.proofs.Results.{on_err}
use Rattle.grid_report.proofs.Begun.{before, within, next_line, line_on, line_more, ok_is_no_err}
use Rattle.grid_report.proofs.report.put_blocks.Goals as goal

pub returns-in_err-block-clause-err : goal.returns-in_err-block-clause-err
returns-in_err-block-clause-err g c = let i = c.loop-text.invariant.so_far in on_err c.from_residual.result (before _ _ c.loop-text.pieces _ _ _ i.1 i.2)

pub returns-in_err-show-clause-err : goal.returns-in_err-show-clause-err
returns-in_err-show-clause-err g c = let i = c.loop-text.invariant.so_far in on_err c.from_residual-in_err-show.result (before _ _ c.loop-text.pieces _ _ _ i.1 i.2)

pub returns-in_err-put-clause-err : goal.returns-in_err-put-clause-err
returns-in_err-put-clause-err g c =
    let i = c.loop-text.invariant.so_far in
    let told = rw c.in-Some.is at c.in_ok-block.ensures.text in
    let shown = rw c.clear.ensures at c.in_ok-show.ensures.ok in
    let line = c.as_bytes.ensures ∙ shown in
    on_err c.from_residual-in_err-put.result (within _ _ _ i.0 (g.B.Block.Shown.shown c.in-Some.block) (g.B.Blocks.text c.next.new.self) (g.B.Blocks.text c.args.blocks) (next_line (g.B.Blocks.text c.args.blocks) i.0 (g.B.Blocks.text c.loop-text.blocks) (g.B.Block.Shown.shown c.in-Some.block) (g.B.Blocks.text c.next.new.self) i.1 told) i.2 (rw line at c.in_err-put.ensures.err))

pub loop-text-preserved : goal.loop-text-preserved
loop-text-preserved g c =
    let i = c.loop-text.invariant.so_far in
    let told = rw c.in-Some.is at c.in_ok-block.ensures.text in
    let shown = rw c.clear.ensures at c.in_ok-show.ensures.ok in
    let line = c.as_bytes.ensures ∙ shown in
    record {
      so_far = (i.0 ++ c.as_bytes.result.now, line_on _ _ _ _ _ i.1 (told ∙ ap (λ l. l ++ g.B.Blocks.text c.next.new.self) (sym line)), line_more (append_known (g.K.Sink.written c.args.sink.now) c.args.pieces.now) (append_known (g.K.Sink.written c.loop-text.sink) c.loop-text.pieces) (append_known (g.K.Sink.written c.put.new.sink) c.put.new.self) i.0 c.as_bytes.result.now i.2 c.in_ok-put.ensures.ok);
      same = c.in_ok-put.ensures.stays (λ is. ok_is_no_err _ _ is) ∙ c.loop-text.invariant.same;
    }
