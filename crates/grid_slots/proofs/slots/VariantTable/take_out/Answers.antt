use Rattle.std.proofs.Common.{sym, subst, arith}
use Rattle.std.proofs.lemmas.Bool.{false_from_ne_true}
use Rattle.grid_ids.proofs.Alike.{same_is}
use Rattle.grid_slots.specs.Names.{initial_state}
use Rattle.grid_slots.specs.Variants.{IsTable}
use Rattle.grid_slots.specs.Places.{variant_at}
use Rattle.grid_slots.proofs.TableEdits.{removed_table}
use Rattle.grid_slots.proofs.VariantLists.{self_named, self_beside, slot_shown, removed_shown, removed_beside}
use Rattle.grid_slots.proofs.slots.VariantTable.take_out.Goals as goal

pub remove-requires : goal.remove-requires
remove-requires c = omega (
  arith,
  c.requires.place,
  self_beside c.self.inside.variants.items c.self.inside.kept
      c.args.self.now c.self.view_is c.self.invariant.1,
)

pub remove-requires-2 : goal.remove-requires-2
remove-requires-2 c = omega (
  arith,
  c.requires.place,
  self_named c.self.inside.variants.items c.self.inside.kept
      c.args.self.now c.self.view_is c.self.invariant.1,
  c.self.inside.variants.ok.0,
)

pub invariant_of-self : goal.invariant_of-self
invariant_of-self c =
    let v = variant_at c.args.self.now c.args.place in (
      subst IsTable (sym (removed_shown c.self.inside.variants.items c.self.inside.kept c.args.self.now c.self.view_is
          c.self.invariant.1 c.args.place c.remove-2.new.self.items c.remove.new.self c.remove-2.ensures.items
          c.remove.ensures))
          (removed_table c.args.self.now c.args.place c.requires.place
          (false_from_ne_true _ (λ e. c.requires.other (sym (same_is initial_state v.name e))))
          (subst IsTable c.self.view_is c.self.invariant.0)),
      removed_beside c.self.inside.variants.items c.self.inside.kept c.args.self.now c.self.view_is c.self.invariant.1
          c.args.place c.remove-2.new.self.items c.remove.new.self c.requires.place c.remove-2.ensures.items
          c.remove.ensures,
    )

pub returns-clause-slot : goal.returns-clause-slot
returns-clause-slot c = sym (slot_shown c.self.inside.variants.items c.self.inside.kept c.args.self.now c.self.view_is
    c.self.invariant.1 c.args.place c.remove-2.result c.requires.place c.remove-2.ensures.value)

pub returns-clause-rest : goal.returns-clause-rest
returns-clause-rest c = removed_shown c.self.inside.variants.items c.self.inside.kept c.args.self.now c.self.view_is
    c.self.invariant.1 c.args.place c.remove-2.new.self.items c.remove.new.self c.remove-2.ensures.items
    c.remove.ensures
