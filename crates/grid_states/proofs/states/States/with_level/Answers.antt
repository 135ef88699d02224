use Rattle.std.proofs.Common.{sym, ap, ◌∙◌, subst, arith, length, rules}
use Rattle.std.proofs.lemmas.Int.{to_z-of_z}
use mir.Syntax.{w128}
use mir.Val.{SFits}
use Rattle.std.specs.Prelude.{insert}
use Rattle.grid_states.specs.Rows.{Rows, with_page_at}
use Rattle.grid_states.specs.Order.{IsOrder, rows_of}
use Rattle.grid_states.proofs.PageOrder.{levels_are, order_more, page_more}
use Rattle.grid_states.proofs.states.States.with_level.Goals as goal

pub insert-requires : goal.insert-requires
insert-requires c = omega (arith, c.requires, levels_are _ _ _ _ _ c.self.view_is)

pub invariant_of-result : goal.invariant_of-result
invariant_of-result c =
    let pages = c.self.inside.pages in
    let order = c.self.inside.order in
    let level = c.args.level in
    let key = c.in_ok-key.ensures ∙ c.len.ensures in
    let keys = c.in_ok-insert.ensures.ok ∙ ap (insert order level) key in
    subst (λ o. IsOrder o (length c.push.new.self)) (sym keys)
    (subst (λ ps. IsOrder (insert order level (length pages)) (length ps)) (sym c.in_ok-push.ensures.ok)
    (order_more order pages level c.args.page c.self.invariant (omega (arith, c.requires, levels_are _ _ _ _ _ c.self.view_is))))

pub returns : goal.returns
returns c =
    let pages = c.self.inside.pages in
    let order = c.self.inside.order in
    let level = c.args.level in
    let key = c.in_ok-key.ensures ∙ c.len.ensures in
    let keys = c.in_ok-insert.ensures.ok ∙ ap (insert order level) key in
    let fits1 : SFits w128 c.self.inside.load = search rules in
    let fits2 : SFits w128 c.self.inside.generation = search rules in
    rw (to_z-of_z w128 c.self.inside.load fits1, to_z-of_z w128 c.self.inside.generation fits2)
    (ap (λ o. rows_of o c.push.new.self c.self.inside.load c.self.inside.generation) keys
    ∙ ap (λ ps. rows_of (insert order level (length pages)) ps c.self.inside.load c.self.inside.generation) c.in_ok-push.ensures.ok
    ∙ page_more order pages c.self.inside.load c.self.inside.generation level c.args.page c.self.invariant
    ∙ ap (λ (r : Rows). with_page_at r level c.args.page) c.self.view_is)
