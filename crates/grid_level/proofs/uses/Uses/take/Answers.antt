use Rattle.std.proofs.Common.{sym}
use Rattle.grid_level.proofs.Places.{rising-without, taken_last, without_use-none, taken_more}
use Rattle.grid_level.proofs.uses.Uses.take.Goals as goal

pub invariant_of-self : goal.invariant_of-self
invariant_of-self c =
    rw (c.remove.ensures.items, taken_last c.args.node c.self.inside.items.items c.place_of-place.result c.index.result.now (cc) (cc) c.index.ensures c.if-more-eq0.true)
    (rising-without c.args.node c.self.inside.items.items c.self.invariant)

pub returns-then-more-eq0 : goal.returns-then-more-eq0
returns-then-more-eq0 c =
    rw (c.remove.ensures.items, ← c.self.view_is) (taken_last c.args.node c.self.inside.items.items c.place_of-place.result c.index.result.now (cc) (cc) c.index.ensures c.if-more-eq0.true)

pub invariant_of-self-else-more-eq0 : goal.invariant_of-self-else-more-eq0
invariant_of-self-else-more-eq0 c =
    rw (taken_more c.args.node c.self.inside.items.items c.place_of-place.result c.index_mut.result.now c.index.result.now (cc) (cc) c.index_mut.ensures.value c.index.ensures c.if-more-eq0.false)
    (rising-without c.args.node c.self.inside.items.items c.self.invariant)

pub returns-else-more-eq0 : goal.returns-else-more-eq0
returns-else-more-eq0 c =
    rw (← c.self.view_is) (taken_more c.args.node c.self.inside.items.items c.place_of-place.result c.index_mut.result.now c.index.result.now (cc) (cc) c.index_mut.ensures.value c.index.ensures c.if-more-eq0.false)

pub returns-else-stands_at : goal.returns-else-stands_at
returns-else-stands_at c = rw (← c.self.view_is) (sym (without_use-none c.args.node c.self.inside.items.items (cc)))
