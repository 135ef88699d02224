use Rattle.std.proofs.Common.{ap, ◌∙◌, arith, length, add-one}
use Rattle.std.proofs.lemmas.Bool.{ne_eqb}
use Rattle.std.specs.Prelude.{◌==◌}
use Rattle.grid_slots.proofs.TableEdits.{slot_ahead, slot_next}
use Rattle.grid_slots.proofs.VariantLists.{self_named, slot_shown}
use Rattle.grid_slots.proofs.slots.VariantTable.place_of.Goals as goal

pub index-requires : goal.index-requires
index-requires c =
    let ahead = slot_ahead c.args.self.now c.loop-self.place c.args.slot c.loop-self.invariant in
    omega (
      arith,
      ahead,
      self_named c.self.inside.variants.items c.self.inside.kept c.args.self.now c.self.view_is
          c.self.invariant.1,
      c.self.inside.variants.ok.0,
    )

pub overflow_add-place : goal.overflow_add-place
overflow_add-place c =
    let ahead = slot_ahead c.args.self.now c.loop-self.place c.args.slot c.loop-self.invariant in
    let long = ap length c.self.view_is in
    let few = c.self.invariant.0.few in
    omega (arith, ahead, long, few)

pub loop-self-smaller : goal.loop-self-smaller
loop-self-smaller c =
    let ahead = slot_ahead c.args.self.now c.loop-self.place c.args.slot c.loop-self.invariant in
    omega (arith, ahead)

pub loop-self-preserved : goal.loop-self-preserved
loop-self-preserved c =
    let ahead = slot_ahead c.args.self.now c.loop-self.place c.args.slot c.loop-self.invariant in
    let here = slot_shown c.self.inside.variants.items c.self.inside.kept c.args.self.now c.self.view_is
    c.self.invariant.1 c.loop-self.place c.index.result.now ahead c.index.ensures in
    let apart = ne_eqb c.index.result.now.slot c.args.slot c.loop-self-test.true in
    let next = slot_next c.args.self.now c.loop-self.place c.args.slot c.loop-self.invariant
    (ap (λ s. s == c.args.slot) here ∙ apart) in
    rw add-one next

pub returns : goal.returns
returns c =
    let ahead = slot_ahead c.args.self.now c.loop-self.place c.args.slot c.loop-self.invariant in
    let here = slot_shown c.self.inside.variants.items c.self.inside.kept c.args.self.now c.self.view_is
    c.self.invariant.1 c.loop-self.place c.index.result.now ahead c.index.ensures in
    record { below = ahead; numbered = here ∙ c.loop-self-test.false }
