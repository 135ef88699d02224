use Rattle.std.proofs.Common.{sym, ◌∙◌, subst, ◌<◌, length}
use Rattle.grid_states.specs.Rows.{shifted, with_watts, HasRoom}
use Rattle.grid_slots.proofs.TableEdits.{on_ok}
use Rattle.grid_slots.proofs.VariantLists.{in_kept, slot_rows, slot_written, slot_table}
use Rattle.grid_slots.proofs.slots.VariantTable.set_watts.Goals as goal

pub get_mut-requires : goal.get_mut-requires
get_mut-requires c = in_kept c.self.inside.variants.items c.self.inside.kept c.args.self.now c.self.view_is
    c.self.invariant.1 c.self.invariant.0 c.args.slot c.place_of-found.result c.place_of-found.ensures

pub set_in-requires-clause-level : goal.set_in-requires-clause-level
set_in-requires-clause-level c =
    let same = slot_rows c.self.inside.variants.items c.self.inside.kept c.args.self.now c.self.view_is
    c.self.invariant.1 c.self.invariant.0 c.args.slot c.place_of-found.result c.place_of-found.ensures
    ∙ sym c.in_ok-get_mut.ensures.states in
    subst (λ rows. c.args.level < length rows.opened) same c.requires.level

pub set_in-requires-clause-room : goal.set_in-requires-clause-room
set_in-requires-clause-room c =
    let same = slot_rows c.self.inside.variants.items c.self.inside.kept c.args.self.now c.self.view_is
    c.self.invariant.1 c.self.invariant.0 c.args.slot c.place_of-found.result c.place_of-found.ensures
    ∙ sym c.in_ok-get_mut.ensures.states in
    subst HasRoom same c.requires.room

pub invariant_of-self-2 : goal.invariant_of-self-2
invariant_of-self-2 c = slot_table c.self.inside.variants.items c.self.inside.kept c.args.self.now c.self.view_is
    c.self.invariant.1 c.self.invariant.0 c.args.slot c.place_of-found.result c.place_of-found.ensures
    c.set_in.new.states

pub returns-clause-ok : goal.returns-clause-ok
returns-clause-ok c =
    on_ok c.set_in.result
    (λ is. slot_written c.self.inside.variants.items c.self.inside.kept c.args.self.now c.self.view_is
    c.self.invariant.1 c.self.invariant.0 c.args.slot c.place_of-found.result c.place_of-found.ensures
    (λ rows. shifted c.args.by (with_watts rows c.args.level c.args.pair.node c.args.pair.watts))
    c.in_ok-get_mut.field-0.now c.set_in.new.states c.in_ok-get_mut.ensures.states is)
    c.set_in.ensures.ok
