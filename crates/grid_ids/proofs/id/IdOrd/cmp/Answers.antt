use Rattle.std.proofs.Common.{◌≡◌, sym, ap, ◌∙◌}
use Rattle.std.specs.Ordering.{nat_cmp}
use Rattle.std.specs.Cmp.Lexicographic.{slice_cmp}
use Rattle.grid_ids.specs.Front.{front_of}
use Rattle.grid_ids.proofs.Fronts.{told}
use Rattle.grid_ids.proofs.id.IdOrd.cmp.Goals as goal

pub returns-else-self-other : goal.returns-else-self-other
returns-else-self-other c =
    let first = c.self.inside.text in
    let second = c.other.inside.text in
    let firsts : c.self.inside.front ≡ front_of first = c.self.invariant.1 in
    let seconds : c.other.inside.front ≡ front_of second = c.other.invariant.1 in
    c.cmp-else-self-other.ensures ∙ ap (λ n. nat_cmp n c.other.inside.front) firsts ∙ ap (λ n. nat_cmp (front_of first) n) seconds
    ∙ told 8 first second c.self.invariant.2 c.other.invariant.2 (λ same. c.if-self-other.false (firsts ∙ same ∙ sym seconds))
    ∙ ap (λ xs. slice_cmp nat_cmp xs second) c.self.view_is ∙ ap (λ ys. slice_cmp nat_cmp c.args.self.now ys) c.other.view_is
