use Rattle.std.proofs.Common.{sym, ap, ◌∙◌, subst, arith}
use Rattle.std.specs.Prelude.{insert}
use Rattle.grid_slots.specs.declared.slots.Named.{Named}
use Rattle.grid_slots.specs.Variants.{IsTable}
use Rattle.grid_slots.specs.Kept.{rows_in_place}
use Rattle.grid_slots.specs.Places.{variant, variant_at}
use Rattle.grid_slots.proofs.TableEdits.{inserted_table}
use Rattle.grid_slots.proofs.VariantLists.{self_beside, inserted_shown, inserted_beside}
use Rattle.grid_slots.proofs.slots.VariantTable.create.Goals as goal

pub put_in-requires-clause-place : goal.put_in-requires-clause-place
put_in-requires-clause-place c = omega (
  arith,
  c.requires.gap.within,
  self_beside c.self.inside.variants.items c.self.inside.kept c.args.self.now
      c.self.view_is c.self.invariant.1,
)

pub put_in-requires-clause-source : goal.put_in-requires-clause-source
put_in-requires-clause-source c = omega (
  arith,
  c.requires.source,
  self_beside c.self.inside.variants.items c.self.inside.kept c.args.self.now
      c.self.view_is c.self.invariant.1,
)

pub invariant_of-self-2 : goal.invariant_of-self-2
invariant_of-self-2 c =
    let self = c.args.self.now in
    let named : Named = record { name = c.in_ok-name.name; slot = c.free_slot-slot.result } in
    let made = variant c.in_ok-name.name c.free_slot-slot.result (variant_at self c.args.source).rows in
    let shown_is = inserted_shown c.self.inside.variants.items c.self.inside.kept c.args.self.now c.self.view_is
    c.self.invariant.1 c.args.place c.put_in.new.variants.items c.put_in.new.kept named c.args.source
    c.requires.gap.within c.requires.source
    c.in_ok-put_in.ensures.named c.in_ok-put_in.ensures.rows in (
      subst IsTable (sym shown_is)
          (inserted_table self c.args.to.now c.args.place c.requires.gap made c.in_ok-name.ensures
          c.free_slot-slot.ensures.free.free c.free_slot-slot.ensures.below c.requires.room
          (subst IsTable c.self.view_is c.self.invariant.0)),
      inserted_beside c.self.inside.variants.items c.self.inside.kept c.args.self.now c.self.view_is c.self.invariant.1
          c.args.place c.put_in.new.variants.items c.put_in.new.kept named
          (rows_in_place c.self.inside.kept c.args.source) c.requires.gap.within
          c.in_ok-put_in.ensures.named c.in_ok-put_in.ensures.rows,
    )

pub returns-clause-ok : goal.returns-clause-ok
returns-clause-ok c =
    let self = c.args.self.now in
    let named : Named = record { name = c.in_ok-name.name; slot = c.free_slot-slot.result } in (
      c.free_slot-slot.ensures.free,
      inserted_shown c.self.inside.variants.items c.self.inside.kept c.args.self.now c.self.view_is c.self.invariant.1
          c.args.place c.put_in.new.variants.items c.put_in.new.kept named c.args.source c.requires.gap.within
          c.requires.source
          c.in_ok-put_in.ensures.named c.in_ok-put_in.ensures.rows
          ∙ ap (λ n. insert self c.args.place (variant n c.free_slot-slot.result (variant_at self c.args.source).rows))
          c.in_ok-name.ensures,
    )
