use Rattle.std.proofs.Common.{sym, ap, ◌∙◌, length, arith, set, length-set}
use Rattle.grid_slots.specs.declared.slots.Cloned.TheVariants.{Overwritten}
use Rattle.grid_slots.specs.Variants.{with_rows}
use Rattle.grid_slots.specs.Shown.{shown}
use Rattle.grid_slots.specs.Kept.{rows_in_place}
use Rattle.grid_slots.specs.Places.{variant_at}
use Rattle.grid_slots.proofs.VariantLists.{self_named, self_beside, set_shown, rows_shown, slot_shown, rows_beside}
use Rattle.grid_slots.proofs.slots.VariantTable.overwrite.Goals as goal

pub set_as-requires-clause-place : goal.set_as-requires-clause-place
set_as-requires-clause-place c = omega (
  arith,
  c.requires.target,
  self_beside c.self.inside.variants.items c.self.inside.kept c.args.self.now
      c.self.view_is c.self.invariant.1,
)

pub set_as-requires-clause-source : goal.set_as-requires-clause-source
set_as-requires-clause-source c = omega (
  arith,
  c.requires.source,
  self_beside c.self.inside.variants.items c.self.inside.kept c.args.self.now
      c.self.view_is c.self.invariant.1,
)

pub index-requires : goal.index-requires
index-requires c = omega (
  arith,
  c.requires.target,
  self_named c.self.inside.variants.items c.self.inside.kept
      c.args.self.now c.self.view_is c.self.invariant.1,
  c.self.inside.variants.ok.0,
)

pub invariant_of-self : goal.invariant_of-self
invariant_of-self c =
    let rows = rows_in_place c.self.inside.kept c.args.source in
    rows_beside c.self.inside.variants.items c.self.inside.kept c.set_as.new.self c.self.invariant.1 c.self.invariant.0
    (ap length c.set_as.ensures ∙ length-set c.self.inside.kept c.args.target rows)

pub returns-clause-rows : goal.returns-clause-rows
returns-clause-rows c =
    let self = c.args.self.now in
    ap (shown c.self.inside.variants.items) c.set_as.ensures
    ∙ set_shown c.self.inside.variants.items c.self.inside.kept self c.self.view_is c.self.invariant.1 c.args.target
    (rows_in_place c.self.inside.kept c.args.source)
    ∙ ap (λ r. set self c.args.target (with_rows (variant_at self c.args.target) r))
    (sym (rows_shown c.self.inside.variants.items c.self.inside.kept self c.self.view_is c.self.invariant.1
    c.args.source c.requires.source))

pub returns-clause-slot : goal.returns-clause-slot
returns-clause-slot c =
    ap Overwritten (sym (slot_shown c.self.inside.variants.items c.self.inside.kept c.args.self.now c.self.view_is
    c.self.invariant.1 c.args.target c.index.result.now c.requires.target c.index.ensures))
