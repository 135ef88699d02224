use Rattle.std.proofs.Common.{◌≤◌, sym, ◌∙◌, length}
use Rattle.grid_states.specs.Rows.{with_empty}
use Rattle.grid_slots.proofs.VariantLists.{all_shown, rows_mapped}
use Rattle.grid_slots.proofs.slots.VariantTable.wider.Goals as goal

pub wider-requires : goal.wider-requires
wider-requires c = all_shown c.self.inside.variants.items c.self.inside.kept c.args.self.now c.self.view_is
    c.self.invariant.1 (λ rows. c.args.level ≤ length rows.opened) c.requires

pub returns : goal.returns
returns c = c.in_ok-wider.ensures
    ∙ sym (rows_mapped c.self.inside.variants.items c.self.inside.kept c.args.self.now c.self.view_is
    c.self.invariant.1 (λ rows. with_empty rows c.args.level))
