use Rattle.std.proofs.Common.{◌∙◌}
use Rattle.std.proofs.lemmas.Result.{IfOk-weaker}
use Rattle.grid_figures.specs.Outages.{AreFiguresUnder}
use Rattle.grid_screen.specs.Kept.{AreFiguresWithout}
use Rattle.grid_screen.proofs.find.figures_without.Goals as goal

pub figures_after-requires-clause-kept : goal.figures_after-requires-clause-kept
figures_after-requires-clause-kept c = c.requires.kept.whole

pub figures_after-requires-clause-outage : goal.figures_after-requires-clause-outage
figures_after-requires-clause-outage c = c.in_ok-outage.ensures.fits

pub returns : goal.returns
returns c =
    let kept = c.args.kept.now in
    IfOk-weaker c.figures_after.result (AreFiguresUnder kept.sums kept.joined c.in_ok-outage.outage) (AreFiguresWithout c.args.case.now c.args.ids.now) (λ figures e retained. e ∙ c.in_ok-outage.ensures.figures retained) c.figures_after.ensures
