use Rattle.grid_states.proofs.PageOrder.{gain_if_ok, left_if_err}
use Rattle.grid_states.proofs.states.States.gain.Goals as goal

pub returns-clause-ok : goal.returns-clause-ok
returns-clause-ok c =
    gain_if_ok c.args.self.now c.args.level c.in_ok-page_mut.field-0.now c.in_ok-page_mut.ensures.page c.push.result c.push.new.self c.args.opened c.args.retained c.push.ensures.ok

pub returns-clause-err : goal.returns-clause-err
returns-clause-err c =
    left_if_err c.args.self.now c.args.level c.in_ok-page_mut.field-0.now c.in_ok-page_mut.ensures.page c.push.result c.push.new.self c.push.ensures.err
