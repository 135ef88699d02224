use Rattle.std.proofs.Common.{◌≡◌, ◌∙◌, ap, length, arith}
use Rattle.std.proofs.lemmas.List.{length-map}
use Rattle.grid_level.specs.Passing.{edges, switch_ends}
use Rattle.grid_level.specs.Kept.{lists_of}
use Rattle.grid_level.proofs.EditUses.{length-edges}
use Rattle.grid_level.proofs.LevelReaders.{first_ends, internal_ends}
use Rattle.grid_level.proofs.Level.edge_ends.Goals as goal

pub returns-then-place-len : goal.returns-then-place-len
unfolding edges
returns-then-place-len c = rw (← c.self.view_is) (first_ends _ _ c.self.inside.ends.items c.args.place c.index.result.now c.self.invariant.listed (omega arith) c.index.ensures)

pub index-internal-requires : goal.index-internal-requires
index-internal-requires c =
    let h = rw (← c.self.view_is) at c.requires in
    let many : length c.self.inside.ends.items ≡ length c.self.inside.switches.items = ap length c.self.invariant.listed ∙ length-map c.self.inside.switches.items switch_ends in
    omega (arith, h, many, length-edges (lists_of c.self.inside.id c.self.inside.nominal_v c.self.inside.low_v c.self.inside.high_v c.self.inside.switches.items c.self.inside.internals.items c.self.inside.placed.items))

pub returns : goal.returns
unfolding edges
returns c =
    let h = rw (← c.self.view_is) at c.requires in
    let long = length-edges (lists_of c.self.inside.id c.self.inside.nominal_v c.self.inside.low_v c.self.inside.high_v c.self.inside.switches.items c.self.inside.internals.items c.self.inside.placed.items) in
    let listed : length c.self.inside.ends.items ≡ length c.self.inside.switches.items = ap length c.self.invariant.listed ∙ length-map c.self.inside.switches.items switch_ends in
    let many : c.len-2.result ≡ length c.self.inside.switches.items = omega (arith, listed) in
    rw (← c.self.view_is) (internal_ends c.self.inside.switches.items c.self.inside.internals.items c.args.place c.len-2.result c.index-internal.result.now many (omega arith) (omega (arith, h, long)) c.index-internal.ensures)
