use Rattle.std.proofs.Common.{sym, ◌∙◌, subst, ◌<◌, length}
use Rattle.std.specs.Prelude.{All}
use Rattle.grid_states.specs.Rows.{row_at, with_opened_all}
use Rattle.grid_slots.proofs.TableEdits.{on_ok}
use Rattle.grid_slots.proofs.VariantLists.{in_kept, slot_rows, slot_written, slot_table}
use Rattle.grid_slots.proofs.slots.VariantTable.set_all.Goals as goal

pub get_mut-requires : goal.get_mut-requires
get_mut-requires c = in_kept c.self.inside.variants.items c.self.inside.kept c.args.self.now c.self.view_is
    c.self.invariant.1 c.self.invariant.0 c.args.slot c.place_of-found.result c.place_of-found.ensures

pub set_all-requires-clause-level : goal.set_all-requires-clause-level
set_all-requires-clause-level c =
    let same = slot_rows c.self.inside.variants.items c.self.inside.kept c.args.self.now c.self.view_is
    c.self.invariant.1 c.self.invariant.0 c.args.slot c.place_of-found.result c.place_of-found.ensures
    ∙ sym c.in_ok-get_mut.ensures.states in
    subst (λ rows. c.args.level < length rows.opened) same c.requires.level

pub set_all-requires-clause-places : goal.set_all-requires-clause-places
set_all-requires-clause-places c =
    let same = slot_rows c.self.inside.variants.items c.self.inside.kept c.args.self.now c.self.view_is
    c.self.invariant.1 c.self.invariant.0 c.args.slot c.place_of-found.result c.place_of-found.ensures
    ∙ sym c.in_ok-get_mut.ensures.states in
    subst (λ rows. All (λ place. place < length (row_at rows.opened c.args.level)) c.args.places.now) same
    c.requires.places

pub invariant_of-self-2 : goal.invariant_of-self-2
invariant_of-self-2 c = slot_table c.self.inside.variants.items c.self.inside.kept c.args.self.now c.self.view_is
    c.self.invariant.1 c.self.invariant.0 c.args.slot c.place_of-found.result c.place_of-found.ensures
    c.set_all.new.self

pub returns-clause-ok : goal.returns-clause-ok
returns-clause-ok c =
    on_ok c.set_all.result
    (λ is. slot_written c.self.inside.variants.items c.self.inside.kept c.args.self.now c.self.view_is
    c.self.invariant.1 c.self.invariant.0 c.args.slot c.place_of-found.result c.place_of-found.ensures
    (λ rows. with_opened_all rows c.args.level c.args.places.now c.args.opened) c.in_ok-get_mut.field-0.now
    c.set_all.new.self c.in_ok-get_mut.ensures.states is)
    c.set_all.ensures.ok
