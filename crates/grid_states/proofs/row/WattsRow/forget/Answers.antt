use Rattle.std.proofs.Common.{◌≡◌, sym, ◌∙◌, true, false, rules}
use Rattle.grid_level.specs.Uses.{place_among, key_here}
use Rattle.grid_states.proofs.WattPairs.{node, removed_there, none_removed, rising-without_pair}
use Rattle.grid_states.proofs.row.WattsRow.forget.Goals as goal

pub invariant_of-self : goal.invariant_of-self
invariant_of-self c =
    rw (c.remove.ensures.items, removed_there c.args.node c.self.inside.pairs.items c.place_of-place.result c.self.invariant (cc) (cc))
    (rising-without_pair c.args.node c.self.inside.pairs.items c.self.invariant)

pub returns-then-stands_at : goal.returns-then-stands_at
returns-then-stands_at c =
    rw (c.remove.ensures.items, ← c.self.view_is) (removed_there c.args.node c.self.inside.pairs.items c.place_of-place.result c.self.invariant (cc) (cc))

pub returns-else-stands_at : goal.returns-else-stands_at
returns-else-stands_at c =
    let free : key_here node c.args.node c.self.inside.pairs.items ≡ false = search rules in
    rw (← c.self.view_is) (none_removed c.args.node c.self.inside.pairs.items c.self.invariant free)
