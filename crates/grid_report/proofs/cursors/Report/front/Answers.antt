use Rattle.std.proofs.Common.{◌++◌, ap, ◌∙◌, append-nil}
use Rattle.std.specs.List.{flat_map, range_with_len}
use Rattle.grid_report.specs.Outcomes.{numbered, order_line, worker_text}
use Rattle.grid_report.proofs.cursors.Report.front.Goals as goal

pub returns : goal.returns
unfolding numbered
returns c =
    let line = order_line c.slice-journal.result.now in
    append-nil (((line ++ c.of.result) ++ c.of-2.result) ++ c.of-3.result)
    ∙ ap (λ l. ((line ++ c.of.result) ++ c.of-2.result) ++ l) c.of-3.ensures
    ∙ append-nil ((line ++ c.of.result) ++ c.of-2.result)
    ∙ ap (λ l. (line ++ c.of.result) ++ l) c.of-2.ensures
    ∙ append-nil (line ++ c.of.result)
    ∙ ap (λ l. line ++ l) c.of.ensures
    ∙ ap (λ j. order_line j ++ flat_map (worker_text j) (range_with_len 0 c.args.outcome.now.workers)) c.slice-journal.ensures
