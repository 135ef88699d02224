use Rattle.std.proofs.Common.{ap, ◌∙◌, slice_set}
use Rattle.grid_report.specs.Lines.{level_text}
use Rattle.grid_report.proofs.LevelTexts.{one_renewed}
use Rattle.grid_report.proofs.variants.renew_texts.Goals as goal

pub loop-place-preserved : goal.loop-place-preserved
loop-place-preserved c =
    let made = c.in_ok-renew_text.ensures ∙ ap level_text c.get-in-loop-place.ensures in
    ap (λ l. slice_set l c.loop-place.place c.renew_text.new.text) c.loop-place.invariant
    ∙ one_renewed level_text c.args.views.now c.args.earlier.now c.loop-place.place c.index-views-place.result c.renew_text.new.text c.requires.long c.loop-place-test.true c.index-views-place.is made
