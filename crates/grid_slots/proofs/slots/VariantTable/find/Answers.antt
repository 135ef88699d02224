use Rattle.std.proofs.Common.{sym, ap, ◌∙◌, Some, arith}
use Rattle.grid_slots.proofs.TableEdits.{slot_at, slot_gap}
use Rattle.grid_slots.proofs.VariantLists.{self_named, slot_shown}
use Rattle.grid_slots.proofs.slots.VariantTable.find.Goals as goal

pub index-requires : goal.index-requires
index-requires c =
    let below = c.in-Ok.ensures.found.below in
    omega (
      arith,
      below,
      self_named c.self.inside.variants.items c.self.inside.kept c.args.self.now c.self.view_is
          c.self.invariant.1,
      c.self.inside.variants.ok.0,
    )

pub returns-in-Ok : goal.returns-in-Ok
returns-in-Ok c =
    let at = c.in-Ok.ensures.found in
    ap (λ s. Some s) (sym (slot_shown c.self.inside.variants.items c.self.inside.kept c.args.self.now c.self.view_is
    c.self.invariant.1 c.in-Ok.place c.index.result.now at.below c.index.ensures))
    ∙ sym (slot_at c.args.self.now c.search.ensures.rise c.args.name.now c.in-Ok.place at)

pub returns-in-Err : goal.returns-in-Err
returns-in-Err c = sym (slot_gap c.args.self.now c.args.name.now c.in-Err.field-0 c.in-Err.ensures.absent)
