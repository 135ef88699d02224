use Rattle.std.proofs.Common.{◌≡◌, ap, ◌∙◌, rules}
use Rattle.std.specs.Prelude.{insert}
use Rattle.std.proofs.lemmas.Int.{to_z-of_z}
use mir.Syntax.{w64}
use mir.Val.{SFits}
use Rattle.grid_states.specs.Pairs.{pair, with_pair}
use Rattle.grid_states.proofs.WattPairs.{set_there, put_there, rising-with_pair}
use Rattle.grid_states.proofs.row.WattsRow.set.Goals as goal

pub invariant_of-self : goal.invariant_of-self
invariant_of-self c =
    let fits : SFits w64 c.args.watts = search rules in
    rw (to_z-of_z w64 c.args.watts fits, set_there c.args.node c.args.watts c.self.inside.pairs.items c.place_of-place.result c.index_mut.result.now (cc) (cc) c.index_mut.ensures.value)
    (rising-with_pair c.args.node c.args.watts c.self.inside.pairs.items c.self.invariant)

pub returns-then-stands_at-clause-ok : goal.returns-then-stands_at-clause-ok
returns-then-stands_at-clause-ok c =
    let fits : SFits w64 c.args.watts = search rules in
    rw (to_z-of_z w64 c.args.watts fits, ← c.self.view_is) (set_there c.args.node c.args.watts c.self.inside.pairs.items c.place_of-place.result c.index_mut.result.now (cc) (cc) c.index_mut.ensures.value)

pub invariant_of-self-2 : goal.invariant_of-self-2
invariant_of-self-2 c =
    let fits : SFits w64 c.args.watts = search rules in
    let row = c.self.inside.pairs.items in
    let is : c.insert.new.self.items ≡ with_pair c.args.node c.args.watts row =
    c.in_ok-insert.ensures.items ∙ ap (λ w. insert row c.place_of-place.result (pair c.args.node w)) (to_z-of_z w64 c.args.watts fits)
    ∙ put_there c.args.node c.args.watts row c.place_of-place.result (cc) (cc) in
    rw is (rising-with_pair c.args.node c.args.watts row c.self.invariant)

pub returns-clause-ok : goal.returns-clause-ok
returns-clause-ok c =
    let fits : SFits w64 c.args.watts = search rules in
    let row = c.self.inside.pairs.items in
    rw (← c.self.view_is) (c.in_ok-insert.ensures.items ∙ ap (λ w. insert row c.place_of-place.result (pair c.args.node w)) (to_z-of_z w64 c.args.watts fits)
    ∙ put_there c.args.node c.args.watts row c.place_of-place.result (cc) (cc))
