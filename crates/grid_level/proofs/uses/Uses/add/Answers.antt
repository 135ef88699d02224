use Rattle.std.proofs.Common.{◌≡◌, ◌<◌, ◌+◌, ◌∙◌, arith}
use Rattle.grid_level.specs.Uses.{with_use, total}
use Rattle.grid_level.proofs.Places.{counted_here, fits_here, counted_new, rising-with_use}
use Rattle.grid_level.proofs.uses.Uses.add.Goals as goal
use Rattle.grid_level.proofs.uses.Uses.add.Goals.{in-Ok, in-Err}

pub overflow_add-index_mut : goal.overflow_add-index_mut
overflow_add-index_mut c =
    let few : total c.self.inside.items.items < 65536 = rw c.self.view_is c.requires in
    let fits : c.index_mut.result.now.more + 1 < 65536 = fits_here c.args.node c.self.inside.items.items c.place_of-place.result c.index_mut.result.now (cc) (cc) c.index_mut.ensures.value few in
    omega arith

pub invariant_of-self : goal.invariant_of-self
invariant_of-self c =
    rw (counted_here c.args.node c.self.inside.items.items c.place_of-place.result c.index_mut.result.now (cc) (cc) c.index_mut.ensures.value)
    (rising-with_use c.args.node c.self.inside.items.items c.self.invariant)

pub returns-then-stands_at-clause-ok : goal.returns-then-stands_at-clause-ok
returns-then-stands_at-clause-ok c =
    rw (← c.self.view_is) (counted_here c.args.node c.self.inside.items.items c.place_of-place.result c.index_mut.result.now (cc) (cc) c.index_mut.ensures.value)

pub invariant_of-self-2 : goal.invariant_of-self-2
invariant_of-self-2 c = elim c.match-insert.branch [
  | in-Ok w ↦ (let is : c.insert.new.self.items ≡ with_use c.args.node c.self.inside.items.items = (w.in-Ok.ensures).items ∙ counted_new c.args.node c.self.inside.items.items c.place_of-place.result (cc) (cc) in
      rw is (rising-with_use c.args.node c.self.inside.items.items c.self.invariant))
  | in-Err w ↦ (let is : c.insert.new.self.items ≡ c.self.inside.items.items = (w.in-Err.ensures).items in rw is c.self.invariant)
]

pub returns-clause-ok : goal.returns-clause-ok
returns-clause-ok c = elim c.match-insert.branch [
  | in-Ok w ↦ rw (w.result-is, ← c.self.view_is) ((w.in-Ok.ensures).items ∙ counted_new c.args.node c.self.inside.items.items c.place_of-place.result (cc) (cc))
  | in-Err w ↦ rw w.result-is tt
]
