use Rattle.std.proofs.Common.{arith}
use Rattle.grid_slots.proofs.VariantLists.{self_named, name_got}
use Rattle.grid_slots.proofs.slots.VariantTable.name_at.Goals as goal

pub index-requires : goal.index-requires
index-requires c = omega (
  arith,
  c.requires,
  self_named c.self.inside.variants.items c.self.inside.kept c.args.self.now
      c.self.view_is c.self.invariant.1,
  c.self.inside.variants.ok.0,
)

pub returns : goal.returns
returns c = name_got c.self.inside.variants.items c.self.inside.kept c.args.self.now c.args.place c.index.result.now
    c.self.view_is c.self.invariant.1 c.requires c.index.ensures
