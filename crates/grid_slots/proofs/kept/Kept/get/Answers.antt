use Rattle.std.proofs.Common.{arith}
use Rattle.grid_slots.proofs.SharedRows.{self_long, below_count, states_are}
use Rattle.grid_slots.proofs.kept.Kept.get.Goals as goal

pub index-requires : goal.index-requires
index-requires c = omega (
  arith,
  c.requires,
  self_long c.self.inside.numbers.items c.self.inside.states.items
      c.args.self.now c.self.view_is,
  c.self.inside.numbers.ok.0,
)

pub index-requires-2 : goal.index-requires-2
index-requires-2 c =
    let below = below_count c.self.inside.numbers.items c.self.inside.states.items c.args.self.now c.self.view_is
    c.args.place c.index.result.now c.requires c.index.ensures c.self.invariant.within in
    omega (arith, below, c.self.inside.states.ok.0)

pub returns : goal.returns
returns c =
    states_are c.self.inside.numbers.items c.self.inside.states.items c.args.self.now c.self.view_is c.args.place
    c.index.result.now c.requires c.index.ensures c.index-2.result.now c.self.invariant.within
    c.index-2.ensures
