use Rattle.std.proofs.Common.{sym, ap, ◌∙◌}
use Rattle.std.specs.Prelude.{◌==◌}
use Rattle.std.specs.List.{list_any}
use Rattle.grid_slots.specs.Variants.{has_slot}
use Rattle.grid_slots.specs.Shown.{shown}
use Rattle.grid_slots.proofs.UsedSlots.{used_below}
use Rattle.grid_slots.proofs.VariantLists.{shown_slot}
use Rattle.grid_slots.proofs.slots.VariantTable.is_used.Goals as goal

pub returns-clause-used : goal.returns-clause-used
returns-clause-used c =
    c.any_has.ensures ∙ ap (list_any (λ m. m.slot == c.args.slot)) c.deref.ensures.value
    ∙ sym (shown_slot c.self.inside.variants.items c.self.inside.kept c.args.slot c.self.invariant.1)
    ∙ ap (λ vs. has_slot vs c.args.slot) c.self.view_is

pub returns-clause-below : goal.returns-clause-below
returns-clause-below c = λ used.
    used_below (shown c.self.inside.variants.items c.self.inside.kept) c.args.slot c.self.invariant.0.below
    (shown_slot c.self.inside.variants.items c.self.inside.kept c.args.slot c.self.invariant.1
    ∙ ap (list_any (λ m. m.slot == c.args.slot)) (sym c.deref.ensures.value) ∙ sym c.any_has.ensures ∙ used)
