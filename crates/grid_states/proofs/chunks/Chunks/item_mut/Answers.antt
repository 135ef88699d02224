use Rattle.std.proofs.Common.{lit<, ◌≡◌, ap, ◌∙◌, get_or, set, ◌/◌, ◌%◌}
use Rattle.std.proofs.lemmas.Result.{IfOk-weaker}
use Rattle.grid_states.specs.Chunked.{joined}
use Rattle.grid_states.proofs.ChunkPlaces.{place_in, item_at, item_set, chunk_kept, set_kept, left_kept}
use Rattle.grid_states.proofs.Lent.{same_functions}
use Rattle.grid_states.proofs.chunks.Chunks.item_mut.Goals as goal

pub invariant_of-self-lent : goal.invariant_of-self-lent
invariant_of-self-lent g c =
    let at = place_in 64 _ _ c.args.place c.index_mut.result.now _ (lit< tt) c.self.invariant c.self.view_is c.requires c.index_mut.ensures.value in
    λ r. (λ w. set_kept at w, left_kept at)

pub returns : goal.returns
returns g c =
    let chunks = c.self.inside.chunks.items in
    let chunk = c.index_mut.result.now in
    let at = place_in 64 _ _ c.args.place chunk _ (lit< tt) c.self.invariant c.self.view_is c.requires c.index_mut.ensures.value in
    let lent = same_functions (λ w. joined (set chunks (c.args.place / 64) (set chunk (c.args.place % 64) w))) (set c.args.self.now c.args.place)
    (λ w. item_set at w ∙ ap (λ l. set l c.args.place w) c.self.view_is) in
    let left : joined (set chunks (c.args.place / 64) chunk) ≡ c.args.self.now = ap joined (chunk_kept at) ∙ c.self.view_is in (
      (cc),
      record {
        writes_back = tt;
        value = IfOk-weaker c.item_mut.result _ _
            (λ item read. item_at at item.now read ∙ ap (λ l. get_or l c.args.place item.now) c.self.view_is) c.item_mut.ensures.value;
      },
    )
