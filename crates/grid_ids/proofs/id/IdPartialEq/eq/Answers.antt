use Rattle.std.proofs.Common.{◌≡◌, ◌≤◌, refl, sym, subst, ap, ◌∙◌, ℕ, List, length, arith}
use Rattle.std.proofs.lemmas.Slice.Eq.{bytes_eq-Decides}
use Rattle.std.specs.Str.{bytes_eq}
use Rattle.grid_ids.specs.Front.{front_of}
use Rattle.grid_ids.proofs.Fronts.{same_texts}
use Rattle.grid_ids.proofs.id.IdPartialEq.eq.Goals as goal

pub returns-then-text-other_text : goal.returns-then-text-other_text
returns-then-text-other_text c =
    let first = c.self.inside.text in
    let second = c.other.inside.text in
    let firsts : c.self.inside.front ≡ front_of first = c.self.invariant.1 in
    let seconds : c.other.inside.front ≡ front_of second = c.other.invariant.1 in
    let mine : c.text-text.result.now ≡ first = c.text-text.ensures.text ∙ sym c.self.view_is in
    let theirs : c.text-other_text.result.now ≡ second = c.text-other_text.ensures.text ∙ sym c.other.view_is in
    let long : length first ≡ length second = sym (ap length mine) ∙ c.if-text-other_text.true ∙ ap length theirs in
    let few : length first ≤ 8 = subst (λ (xs : List ℕ). length xs ≤ 8) mine c.if-text-le-FRONT.true in
    let same : first ≡ second = same_texts 8 first second c.self.invariant.2 c.other.invariant.2 long few (sym firsts ∙ c.if-self-other.false ∙ seconds) in
    let equal : c.args.self.now ≡ c.args.other.now = sym c.self.view_is ∙ same ∙ c.other.view_is in
    sym ((bytes_eq-Decides c.args.self.now c.args.other.now).1 equal)
