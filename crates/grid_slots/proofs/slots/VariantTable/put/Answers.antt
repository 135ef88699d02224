use Rattle.std.proofs.Common.{◌≡◌, ap, ◌∙◌, length}
use Rattle.grid_slots.specs.Kept.{EachRows}
use Rattle.grid_slots.proofs.VariantLists.{self_beside, rows_beside, put_shown}
use Rattle.grid_slots.proofs.slots.VariantTable.put.Goals as goal

pub invariant_of-self : goal.invariant_of-self
invariant_of-self c =
    let long : length c.states.inside.kept ≡ length c.self.inside.kept = ap (λ (r : EachRows). length r.items)
    c.states.view_is ∙ c.requires
    ∙ self_beside c.self.inside.variants.items c.self.inside.kept c.args.self.now c.self.view_is
    c.self.invariant.1 in
    rows_beside c.self.inside.variants.items c.self.inside.kept c.states.inside.kept c.self.invariant.1
    c.self.invariant.0 long

pub returns : goal.returns
returns c = put_shown c.self.inside.variants.items c.self.inside.kept c.args.self.now c.self.view_is c.self.invariant.1
    c.states.inside.kept c.args.states.items (ap (λ (r : EachRows). r.items) c.states.view_is) c.requires
