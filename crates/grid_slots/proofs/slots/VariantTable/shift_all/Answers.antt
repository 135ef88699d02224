use Rattle.std.proofs.Common.{ap, ◌∙◌, length}
use Rattle.std.proofs.lemmas.List.{length-map}
use Rattle.grid_states.specs.Rows.{shifted, HasRoom}
use Rattle.grid_slots.proofs.VariantLists.{all_shown, changed_shown, rows_beside}
use Rattle.grid_slots.proofs.slots.VariantTable.shift_all.Goals as goal

pub shift_all-requires-clause-room : goal.shift_all-requires-clause-room
shift_all-requires-clause-room c = all_shown c.self.inside.variants.items c.self.inside.kept c.args.self.now
    c.self.view_is c.self.invariant.1 HasRoom c.requires.room

pub invariant_of-self : goal.invariant_of-self
invariant_of-self c =
    rows_beside c.self.inside.variants.items c.self.inside.kept c.shift_all.new.self c.self.invariant.1
    c.self.invariant.0
    (ap length c.shift_all.ensures ∙ length-map c.self.inside.kept (shifted c.args.by))

pub returns : goal.returns
returns c = changed_shown c.self.inside.variants.items c.self.inside.kept c.args.self.now c.self.view_is
    c.self.invariant.1 (shifted c.args.by) c.shift_all.new.self c.shift_all.ensures
