use Rattle.std.proofs.Common.{lit<}
use Rattle.grid_states.proofs.ChunkPlaces.{place_in, item_at}
use Rattle.grid_states.proofs.chunks.Chunks.get.Goals as goal

pub returns : goal.returns
returns g c =
    let at = place_in 64 _ _ c.args.place c.index.result.now _ (lit< tt) c.self.invariant c.self.view_is c.requires c.index.ensures in
    rw (← c.self.view_is) (item_at at c.get.result.now c.get.ensures)
