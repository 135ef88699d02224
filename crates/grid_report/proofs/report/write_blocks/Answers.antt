use Rattle.std.proofs.Common.{◌≡◌, ◌++◌, ap, ◌∙◌}
use Rattle.grid_lemmas.proofs.Results.{on_err}
use Rattle.grid_report.proofs.Begun.{on_err_map, before, within, at_end, cut, cut_at, whole}
use Rattle.grid_report.proofs.report.write_blocks.Goals as goal

pub returns-in_err-show-clause-err : goal.returns-in_err-show-clause-err
returns-in_err-show-clause-err g c = on_err c.from_residual.result (before _ _ c.loop-block.pieces _ _ _ (cut g.T.Shown.shown c.args.blocks.now c.loop-block.block-index) c.loop-block.invariant.so_far)

pub returns-in_err-put-clause-err : goal.returns-in_err-put-clause-err
returns-in_err-put-clause-err g c =
    let line : c.as_bytes.result.now ≡ g.T.Shown.shown c.block-item.result = c.as_bytes.ensures ∙ c.in_ok-show.ensures.ok ∙ ap (λ l. l ++ g.T.Shown.shown c.block-item.result) c.clear.ensures in
    on_err c.from_residual-in_err-put.result (within _ _ _ _ _ _ _ (cut_at g.T.Shown.shown c.args.blocks.now c.loop-block.block-index c.block-item.result c.loop-block-test.true c.block-item.is) c.loop-block.invariant.so_far (rw line at c.in_err-put.ensures.err))

pub returns-clause-err : goal.returns-clause-err
returns-clause-err g c = on_err_map c.finish.result (λ e. at_end _ _ _ c.loop-block.pieces _ e.0 (rw (whole g.T.Shown.shown c.args.blocks.now c.loop-block.block-index c.loop-block-test.false) at c.loop-block.invariant.so_far) e.1) c.finish.ensures.err
