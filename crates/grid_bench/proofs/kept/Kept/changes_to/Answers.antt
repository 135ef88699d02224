use Rattle.std.proofs.Common.{◌≡◌, ◌↔◌, IsTrue, refl, sym, ap, ◌∙◌, subst, ◌<◌, ◌≤◌, arith}
use Rattle.std.proofs.lemmas.Bool.{false≢true}
use Rattle.grid_level.specs.VoltageLevel.{VoltageLevel}
use Rattle.grid_bench.specs.Ends.{SameEnds}
use Rattle.grid_bench.specs.Contents.{Content, content}
use Rattle.grid_bench.specs.Costs.{differs_at, count_changes, most_followed, CanFollow}
use Rattle.grid_bench.proofs.VisitBounds.{can_of_few, can_where_same}
use Rattle.grid_bench.proofs.kept.Kept.changes_to.Goals as goal

pub returns-then-changes-le2-clause-can : goal.returns-then-changes-le2-clause-can
unfolding count_changes differs_at
returns-then-changes-le2-clause-can c =
    let now = c.args.self.now in
    let new = content c.args.level.now c.args.opened.now c.args.retained.now in
    let here : c.self.inside.level ≡ now.level = ap (λ (z : Content). z.level) c.self.view_is in
    let P : VoltageLevel → Type 0 = λ z. SameEnds z c.args.level.now in
    let counted : c.count_changes-changes.result ≡ count_changes now new = c.count_changes-changes.ensures in
    let few : count_changes now new ≤ 2 = omega (arith, counted, c.if-changes-le2.true) in
    (λ t. can_of_few now new (subst P (c.get-kept.ensures ∙ here) (c.same_ends.ensures.0 c.if-not-same_ends.false)) few, λ can. refl)

pub returns-then-changes-le2-clause-changes : goal.returns-then-changes-le2-clause-changes
unfolding count_changes differs_at
returns-then-changes-le2-clause-changes c = c.count_changes-changes.ensures

pub returns-else-same-clause-can : goal.returns-else-same-clause-can
unfolding count_changes differs_at
returns-else-same-clause-can c =
    let now = c.args.self.now in
    let new = content c.args.level.now c.args.opened.now c.args.retained.now in
    let here : c.self.inside.level ≡ now.level = ap (λ (z : Content). z.level) c.self.view_is in
    let P : VoltageLevel → Type 0 = λ z. SameEnds z c.args.level.now in
    let R : VoltageLevel → Type 0 = λ z. IsTrue c.same.result ↔ (z ≡ c.args.level.now) in
    let counted : c.count_changes-changes.result ≡ count_changes now new = c.count_changes-changes.ensures in
    let many : 2 < count_changes now new = omega (arith, counted, c.if-changes-le2.false) in
    let near : count_changes now new ≤ most_followed = omega (arith, counted, c.if-changes-gt-MOST_FOLLOWED.false) in
    let can = can_where_same now new c.same.result (subst P (c.get-kept.ensures ∙ here) (c.same_ends.ensures.0 c.if-not-same_ends.false)) many near (subst R (c.get-kept.ensures ∙ here) c.same.ensures) in
    (λ t. absurd (false≢true t), λ follows. sym c.if-same.false ∙ can.1 follows)

pub returns-then-changes-gt-MOST_FOLLOWED-clause-can : goal.returns-then-changes-gt-MOST_FOLLOWED-clause-can
unfolding count_changes differs_at
returns-then-changes-gt-MOST_FOLLOWED-clause-can c =
    let now = c.args.self.now in
    let new = content c.args.level.now c.args.opened.now c.args.retained.now in
    let counted : c.count_changes-changes.result ≡ count_changes now new = c.count_changes-changes.ensures in
    (λ t. absurd (false≢true t), λ (can : CanFollow now new). absurd (omega (arith, counted, can.near, c.if-changes-gt-MOST_FOLLOWED.true)))
