use Rattle.std.proofs.Common.{◌≡◌, ◌+◌, length, Fits, w64}
use Rattle.grid_json.specs.Loading.{load_items}
use Rattle.grid_json.proofs.load.load_each.Given as goal

abbrev pub invariant-loop-part : goal.invariant-loop-part
invariant-loop-part g l =
    (load_items g.T.Load.loads l.position l.part-iterator.rest.items l.owner (g.T.Load.seen l.into) ≡ load_items g.T.Load.loads 0 l.fn.parts l.owner (g.T.Load.seen l.fn.into))
    × (l.position + length l.part-iterator.rest.items ≡ length l.fn.parts) × Fits w64 (length l.fn.parts)
