use Rattle.std.proofs.Common.{sym, ◌∙◌, subst, ◌<◌, length}
use Rattle.grid_states.specs.Rows.{row_at, with_opened}
use Rattle.grid_slots.proofs.TableEdits.{on_ok}
use Rattle.grid_slots.proofs.VariantLists.{in_kept, slot_rows, slot_written, slot_table}
use Rattle.grid_slots.proofs.slots.VariantTable.set.Goals as goal

pub get_mut-requires : goal.get_mut-requires
get_mut-requires c = in_kept c.self.inside.variants.items c.self.inside.kept c.args.self.now c.self.view_is
    c.self.invariant.1 c.self.invariant.0 c.args.slot c.place_of-found.result c.place_of-found.ensures

pub set-requires-clause-level : goal.set-requires-clause-level
set-requires-clause-level c =
    let same = slot_rows c.self.inside.variants.items c.self.inside.kept c.args.self.now c.self.view_is
    c.self.invariant.1 c.self.invariant.0 c.args.slot c.place_of-found.result c.place_of-found.ensures
    ∙ sym c.in_ok-get_mut.ensures.states in
    subst (λ rows. c.args.level < length rows.opened) same c.requires.level

pub set-requires-clause-place : goal.set-requires-clause-place
set-requires-clause-place c =
    let same = slot_rows c.self.inside.variants.items c.self.inside.kept c.args.self.now c.self.view_is
    c.self.invariant.1 c.self.invariant.0 c.args.slot c.place_of-found.result c.place_of-found.ensures
    ∙ sym c.in_ok-get_mut.ensures.states in
    subst (λ rows. c.args.place < length (row_at rows.opened c.args.level)) same c.requires.place

pub invariant_of-self-2 : goal.invariant_of-self-2
invariant_of-self-2 c = slot_table c.self.inside.variants.items c.self.inside.kept c.args.self.now c.self.view_is
    c.self.invariant.1 c.self.invariant.0 c.args.slot c.place_of-found.result c.place_of-found.ensures c.set.new.self

pub returns-clause-ok : goal.returns-clause-ok
returns-clause-ok c =
    on_ok c.set.result
    (λ is. slot_written c.self.inside.variants.items c.self.inside.kept c.args.self.now c.self.view_is
    c.self.invariant.1 c.self.invariant.0 c.args.slot c.place_of-found.result c.place_of-found.ensures
    (λ rows. with_opened rows c.args.level c.args.place c.args.opened) c.in_ok-get_mut.field-0.now c.set.new.self
    c.in_ok-get_mut.ensures.states is)
    c.set.ensures.ok
