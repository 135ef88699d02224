use Rattle.std.proofs.Common.{arith, ap, length}
use Rattle.grid_slots.proofs.VariantLists.{self_named}
use Rattle.grid_slots.proofs.slots.VariantTable.len.Goals as goal

pub overflow_cast-result : goal.overflow_cast-result
overflow_cast-result c =
    let few = c.self.invariant.0.few in
    omega (
      arith,
      few,
      self_named c.self.inside.variants.items c.self.inside.kept c.args.self.now c.self.view_is
          c.self.invariant.1,
      ap length c.self.view_is,
      c.len.ensures,
      c.self.inside.variants.ok.0,
    )

pub returns-clause-len : goal.returns-clause-len
returns-clause-len c = omega (
  arith,
  self_named c.self.inside.variants.items c.self.inside.kept c.args.self.now
      c.self.view_is c.self.invariant.1,
  c.len.ensures,
  c.self.inside.variants.ok.0,
)

pub returns-clause-few : goal.returns-clause-few
returns-clause-few c =
    let few = c.self.invariant.0.few in
    omega (
      arith,
      few,
      self_named c.self.inside.variants.items c.self.inside.kept c.args.self.now c.self.view_is
          c.self.invariant.1,
      ap length c.self.view_is,
      c.len.ensures,
      c.self.inside.variants.ok.0,
    )
