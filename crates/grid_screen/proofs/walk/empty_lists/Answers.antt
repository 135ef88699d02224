use Rattle.std.proofs.Common.{ap, ◌∙◌, [], ◌∷◌, ◌++◌, length, length-append, get_or, arith}
use Rattle.grid_outages.proofs.Members.{one_same}
use Rattle.grid_screen.proofs.walk.empty_lists.Goals as goal

pub loop-label-init : goal.loop-label-init
loop-label-init c = (ap length c.in_ok-lists.ensures.items, λ k. ap (λ z. get_or z k []) c.in_ok-lists.ensures.items)

pub loop-label-preserved : goal.loop-label-preserved
loop-label-preserved c =
    let old = c.loop-label.lists.items in
    let pushed = c.in_ok-push.ensures.items ∙ ap (λ z. old ++ z ∷ []) c.empty.ensures in (
      ap length pushed ∙ length-append old ([] ∷ []) ∙ omega (arith, c.loop-label.invariant.0),
      λ k. ap (λ z. get_or z k []) pushed ∙ one_same [] old k c.loop-label.invariant.1,
    )

pub returns-clause-long : goal.returns-clause-long
returns-clause-long c = omega (arith, c.loop-label.invariant.0, c.loop-label-test.false, c.loop-label.auto._label-end)

pub returns-clause-none : goal.returns-clause-none
returns-clause-none c = c.loop-label.invariant.1
