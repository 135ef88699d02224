use Rattle.std.proofs.Common.{sym, ap, ◌∙◌, ◌++◌, ◌∷◌, []}
use Rattle.std.specs.List.{flat_map}
use Rattle.grid_report.specs.Outcomes.{order_line}
use Rattle.grid_configured.specs.Blocks.{block_objects, block_text}
use Rattle.grid_jsonl.specs.Outcomes.{order_object}
use Rattle.grid_configured.specs.Lines.{counts_of, objects}
use Rattle.grid_configured.proofs.PartObjects.{objects_assembled, pushed_objects}
use Rattle.grid_configured.specs.Texts.{report_of}
use Rattle.grid_configured.proofs.ReportSteps.{assembled, pushed}
use Rattle.grid_configured.proofs.plan.plan.Goals as goal

pub returns-clause-text : goal.returns-clause-text
returns-clause-text c =
    let o = c.outcome.inside in
    assembled o.journal c.slice-journal.result.now o.replies c.slice.result.now o.workers o.views c.slice-2.result.now _ _ _ _ c.outcome.invariant c.slice-journal.ensures c.slice.ensures c.slice-2.ensures
    (pushed _ _ _ c.in_ok-push.ensures.items ∙ ap (λ items. flat_map block_text items ++ order_line c.slice-journal.result.now) c.new-blocks.ensures.items)
    c.in_ok-push_workers.ensures.text
    c.in_ok-push_variants.ensures.text
    (pushed _ _ _ c.in_ok-push-2.ensures.items)
    ∙ ap report_of c.outcome.view_is

pub returns-clause-lines : goal.returns-clause-lines
returns-clause-lines c =
    let o = c.outcome.inside in
    objects_assembled o.journal c.slice-journal.result.now o.replies c.slice.result.now o.workers o.views c.slice-2.result.now c.counts_of.result _ _ _ _ c.outcome.invariant c.slice-journal.ensures c.slice.ensures c.slice-2.ensures
    (c.counts_of.ensures ∙ ap counts_of (sym c.outcome.view_is))
    (pushed_objects _ _ _ c.in_ok-push.ensures.items ∙ ap (λ items. flat_map block_objects items ++ order_object c.slice-journal.result.now ∷ []) c.new-blocks.ensures.items)
    c.in_ok-push_workers.ensures.lines
    c.in_ok-push_variants.ensures.lines
    (pushed_objects _ _ _ c.in_ok-push-2.ensures.items)
    ∙ ap objects c.outcome.view_is
