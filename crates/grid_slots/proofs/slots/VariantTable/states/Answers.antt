use Rattle.std.proofs.Common.{sym, ◌∙◌}
use Rattle.grid_slots.proofs.VariantLists.{in_kept, slot_rows}
use Rattle.grid_slots.proofs.slots.VariantTable.states.Goals as goal

pub get-requires : goal.get-requires
get-requires c = in_kept c.self.inside.variants.items c.self.inside.kept c.args.self.now c.self.view_is
    c.self.invariant.1 c.self.invariant.0 c.args.slot c.place_of.result c.place_of.ensures

pub returns : goal.returns
returns c =
    c.get.ensures ∙ sym (slot_rows c.self.inside.variants.items c.self.inside.kept c.args.self.now c.self.view_is
    c.self.invariant.1 c.self.invariant.0 c.args.slot c.place_of.result c.place_of.ensures)
