use Rattle.std.proofs.Common.{arith, ap, length}
use Rattle.grid_states.proofs.PageOrder.{set_if_ok, left_if_err}
use Rattle.grid_states.proofs.states.States.set.Goals as goal

pub set-requires : goal.set-requires
set-requires c = omega (arith, c.requires.place, ap (λ p. length p.opened) c.in_ok-page_mut.ensures.page)

pub returns-clause-ok : goal.returns-clause-ok
returns-clause-ok c =
    set_if_ok c.args.self.now c.args.level c.in_ok-page_mut.field-0.now c.in_ok-page_mut.ensures.page c.set.result c.set.new.self c.args.place c.args.opened c.set.ensures.ok

pub returns-clause-err : goal.returns-clause-err
returns-clause-err c =
    left_if_err c.args.self.now c.args.level c.in_ok-page_mut.field-0.now c.in_ok-page_mut.ensures.page c.set.result c.set.new.self c.set.ensures.err
