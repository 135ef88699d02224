use Rattle.std.proofs.Common.{ℕ, List}
use Rattle.grid_lemmas.proofs.Results.{on_err}
use Rattle.grid_report.proofs.Begun.{within, cut_at}
use Rattle.grid_report.proofs.pieces.put_texts.Goals as goal

pub returns-in_err-put-clause-err : goal.returns-in_err-put-clause-err
returns-in_err-put-clause-err g c =
    on_err c.from_residual.result (within _ _ _ _ _ _ _ (cut_at (λ (t : List ℕ). t) c.args.texts.now c.loop-text.text-index c.text-item.result c.loop-text-test.true c.text-item.is) c.loop-text.invariant.so_far (rw c.as_bytes.ensures at c.in_err-put.ensures.err))
