use Rattle.std.proofs.Common.{◌≡◌, ap, ◌∙◌}
use Rattle.std.proofs.lemmas.Result.{IfOk-weaker}
use Rattle.grid_screen.specs.Found.{IsFinding}
use Rattle.grid_screen.specs.Starts.{finding_from}
use Rattle.grid_screen.proofs.find.find_one.Goals as goal

pub returns : goal.returns
returns c =
    let before = c.args.before.now in
    let after = c.in_ok-after.after in
    let end = c.in_ok-start.start.end in
    IfOk-weaker c.finding_by.result (λ finding. finding ≡ finding_from before after end) (IsFinding c.args.case.now c.args.contingency.now)
    (λ finding e retained. e ∙ ap (λ z. finding_from z after end) (c.requires.before retained) ∙ c.in_ok-start.ensures.makes after c.in_ok-after.ensures retained) c.finding_by.ensures
