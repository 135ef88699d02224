use Rattle.std.proofs.Common.{◌≡◌, sym, ◌∙◌, None, rules}
use Rattle.grid_states.proofs.PageOrder.{forget_if_ok, left_if_err, unlisted_kept}
use Rattle.grid_states.proofs.states.States.forget_watts.Goals as goal

pub returns-clause-ok : goal.returns-clause-ok
returns-clause-ok c =
    forget_if_ok c.args.self.now c.args.level c.in_ok-page_mut.field-0.now c.in_ok-page_mut.ensures.page c.forget_watts.result c.forget_watts.new.self c.args.node c.forget_watts.ensures.ok

pub returns-clause-err : goal.returns-clause-err
returns-clause-err c =
    left_if_err c.args.self.now c.args.level c.in_ok-page_mut.field-0.now c.in_ok-page_mut.ensures.page c.forget_watts.result c.forget_watts.new.self c.forget_watts.ensures.err

pub returns-then-is_none-clause-ok : goal.returns-then-is_none-clause-ok
returns-then-is_none-clause-ok c =
    let none : c.watts.result ≡ None = search rules in
    unlisted_kept c.args.self.now c.args.level c.args.node (sym c.watts.ensures ∙ none)
