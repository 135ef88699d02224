use Rattle.std.proofs.Common.{arith, ap, length}
use Rattle.grid_states.proofs.PageOrder.{lose_if_ok, left_if_err}
use Rattle.grid_states.proofs.states.States.lose.Goals as goal

pub remove-requires-clause-opened : goal.remove-requires-clause-opened
remove-requires-clause-opened c = omega (arith, c.requires.opened, ap (λ p. length p.opened) c.in_ok-page_mut.ensures.page)

pub remove-requires-clause-retained : goal.remove-requires-clause-retained
remove-requires-clause-retained c = omega (arith, c.requires.retained, ap (λ p. length p.retained) c.in_ok-page_mut.ensures.page)

pub returns-clause-ok : goal.returns-clause-ok
returns-clause-ok c =
    lose_if_ok c.args.self.now c.args.level c.in_ok-page_mut.field-0.now c.in_ok-page_mut.ensures.page c.remove.result c.remove.new.self c.args.place c.remove.ensures.ok

pub returns-clause-err : goal.returns-clause-err
returns-clause-err c =
    left_if_err c.args.self.now c.args.level c.in_ok-page_mut.field-0.now c.in_ok-page_mut.ensures.page c.remove.result c.remove.new.self c.remove.ensures.err
