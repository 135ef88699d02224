use Rattle.std.proofs.Common.{◌≡◌, ap, subst, rules}
use Rattle.std.specs.Prelude.{OnOk}
use Rattle.std.proofs.lemmas.Int.{to_z-of_z}
use mir.Syntax.{w64}
use mir.Val.{SFits}
use Rattle.grid_states.specs.Pairs.{with_pair}
use Rattle.grid_states.proofs.PageOrder.{watts_if_ok, left_if_err}
use Rattle.grid_states.proofs.states.States.set_watts.Goals as goal

pub returns-clause-ok : goal.returns-clause-ok
returns-clause-ok c =
    let fits : SFits w64 c.args.pair.watts = search rules in
    let page = c.in_ok-page_mut.field-0.now in
    watts_if_ok c.args.self.now c.args.level page c.in_ok-page_mut.ensures.page c.set_watts.result c.set_watts.new.self c.args.pair.node c.args.pair.watts
    (subst (λ w. OnOk c.set_watts.result (c.set_watts.new.self ≡ record page { watts = with_pair c.args.pair.node w page.watts })) (to_z-of_z w64 c.args.pair.watts fits) c.set_watts.ensures.ok)

pub returns-clause-err : goal.returns-clause-err
returns-clause-err c =
    left_if_err c.args.self.now c.args.level c.in_ok-page_mut.field-0.now c.in_ok-page_mut.ensures.page c.set_watts.result c.set_watts.new.self c.set_watts.ensures.err
