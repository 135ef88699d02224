use Rattle.std.proofs.Common.{◌≡◌, List, ◌∷◌, ◌++◌, [], refl, ap, ◌∙◌}
use Rattle.grid_slots.specs.declared.slots.Named.{Named}
use Rattle.grid_slots.proofs.VariantLists.{first_kept, first_shown}
use Rattle.grid_slots.proofs.slots.VariantTable.start.Goals as goal

pub invariant_of-result : goal.invariant_of-result
invariant_of-result c =
    let first : Named = record { name = c.in_ok-initial_name.field-0; slot = 0 } in
    let made : c.push.new.self.items ≡ first ∷ [] = ◌∙◌ {A = List Named} c.in_ok-push.ensures.items
    (ap (λ named. named ++ first ∷ []) c.new-variants.ensures.items) in
    first_kept c.push.new.self.items c.in_ok-start.field-0 first c.args.initial made c.in_ok-start.ensures
    c.in_ok-initial_name.ensures refl

pub returns : goal.returns
returns c =
    let first : Named = record { name = c.in_ok-initial_name.field-0; slot = 0 } in
    let made : c.push.new.self.items ≡ first ∷ [] = ◌∙◌ {A = List Named} c.in_ok-push.ensures.items
    (ap (λ named. named ++ first ∷ []) c.new-variants.ensures.items) in
    first_shown c.push.new.self.items c.in_ok-start.field-0 first c.args.initial made c.in_ok-start.ensures
    c.in_ok-initial_name.ensures refl
