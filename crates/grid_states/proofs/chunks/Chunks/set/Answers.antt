use Rattle.std.proofs.Common.{lit<}
use Rattle.grid_states.proofs.ChunkPlaces.{place_in, kept, set_if_ok}
use Rattle.grid_states.proofs.chunks.Chunks.set.Goals as goal

pub invariant_of-self : goal.invariant_of-self
invariant_of-self g c =
    let at = place_in 64 _ _ c.args.place c.index_mut.result.now _ (lit< tt) c.self.invariant c.self.view_is c.requires c.index_mut.ensures.value in
    kept at c.set.result c.set.new.self c.args.item c.set.ensures.ok c.set.ensures.err

pub returns-clause-ok : goal.returns-clause-ok
returns-clause-ok g c =
    let at = place_in 64 _ _ c.args.place c.index_mut.result.now _ (lit< tt) c.self.invariant c.self.view_is c.requires c.index_mut.ensures.value in
    rw (← c.self.view_is) (set_if_ok at c.set.result c.set.new.self c.args.item c.set.ensures.ok)
