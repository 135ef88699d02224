use Rattle.std.proofs.Common.{◌≡◌, ◌≤◌, sym, ap, ◌∙◌, subst, length}
use Rattle.std.proofs.lemmas.List.{length-map}
use Rattle.grid_ids.specs.Clones.{items_clone_equals}
use Rattle.grid_states.specs.Rows.{Rows, with_empty}
use Rattle.grid_slots.specs.Kept.{kept_rows, AreKept}
use Rattle.grid_slots.proofs.SharedRows.{all_states, rows_changed}
use Rattle.grid_slots.proofs.kept.Kept.wider.Goals as goal

pub wider_states-requires : goal.wider_states-requires
wider_states-requires c =
    all_states c.self.inside.numbers.items c.self.inside.states.items c.args.self.now c.self.invariant c.self.view_is
    (λ rows. c.args.level ≤ length rows.opened) c.requires

pub invariant_of-result : goal.invariant_of-result
invariant_of-result c =
    let same : c.in_ok-clone.field-0.items ≡ c.self.inside.numbers.items = items_clone_equals (λ x y is. is)
    c.self.inside.numbers.items c.in_ok-clone.field-0.items c.in_ok-clone.ensures.cases.0 in
    let widen : Rows → Rows = λ rows. with_empty rows c.args.level in
    let long = ap length c.in_ok-wider_states.ensures ∙ length-map c.self.inside.states.items widen in
    subst (λ z. AreKept z (length c.in_ok-wider_states.field-0.items)) (sym same)
    (subst (AreKept c.self.inside.numbers.items) (sym long) c.self.invariant)

pub returns : goal.returns
returns c =
    let same : c.in_ok-clone.field-0.items ≡ c.self.inside.numbers.items = items_clone_equals (λ x y is. is)
    c.self.inside.numbers.items c.in_ok-clone.field-0.items c.in_ok-clone.ensures.cases.0 in
    ap (λ z. kept_rows z c.in_ok-wider_states.field-0.items) same
    ∙ ap (kept_rows c.self.inside.numbers.items) c.in_ok-wider_states.ensures
    ∙ rows_changed c.self.inside.numbers.items c.self.inside.states.items c.args.self.now c.self.invariant
    c.self.view_is (λ rows. with_empty rows c.args.level)
