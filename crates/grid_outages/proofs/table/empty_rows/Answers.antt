use Rattle.std.proofs.Common.{ap, ◌∙◌, [], ◌∷◌, ◌++◌, length, length-append, get_or, arith}
use Rattle.grid_outages.proofs.Members.{one_same}
use Rattle.grid_outages.proofs.table.empty_rows.Goals as goal

pub loop-level-init : goal.loop-level-init
loop-level-init c = (ap length c.in_ok-rows.ensures.items, λ k. ap (λ z. get_or z k []) c.in_ok-rows.ensures.items)

pub loop-level-preserved : goal.loop-level-preserved
loop-level-preserved c =
    let old = c.loop-level.rows.items in
    let pushed = c.in_ok-push.ensures.items ∙ ap (λ z. old ++ z ∷ []) c.empty.ensures in (
      ap length pushed ∙ length-append old ([] ∷ []) ∙ omega (arith, c.loop-level.invariant.0),
      λ k. ap (λ z. get_or z k []) pushed ∙ one_same [] old k c.loop-level.invariant.1,
    )

pub returns-clause-long : goal.returns-clause-long
returns-clause-long c = omega (arith, c.loop-level.invariant.0, c.loop-level-test.false, c.loop-level.auto._level-end)

pub returns-clause-none : goal.returns-clause-none
returns-clause-none c = c.loop-level.invariant.1
