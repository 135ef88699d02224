use Rattle.std.proofs.Common.{arith, ap, length}
use Rattle.grid_states.proofs.PageOrder.{set_retained_if_ok, left_if_err}
use Rattle.grid_states.proofs.states.States.set_retained.Goals as goal

pub set_retained-requires : goal.set_retained-requires
set_retained-requires c = omega (arith, c.requires.place, ap (λ p. length p.retained) c.in_ok-page_mut.ensures.page)

pub returns-clause-ok : goal.returns-clause-ok
returns-clause-ok c =
    set_retained_if_ok c.args.self.now c.args.level c.in_ok-page_mut.field-0.now c.in_ok-page_mut.ensures.page c.set_retained.result c.set_retained.new.self c.args.place c.args.retained c.set_retained.ensures.ok

pub returns-clause-err : goal.returns-clause-err
returns-clause-err c =
    left_if_err c.args.self.now c.args.level c.in_ok-page_mut.field-0.now c.in_ok-page_mut.ensures.page c.set_retained.result c.set_retained.new.self c.set_retained.ensures.err
