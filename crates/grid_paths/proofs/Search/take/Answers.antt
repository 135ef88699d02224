use Rattle.std.proofs.Common.{◌≡◌, Some, arith, sym, ◌∙◌}
use Rattle.grid_paths.specs.Search.{step_weight}
use Rattle.grid_paths.proofs.CallAnswers.{OnOk_then}
use Rattle.grid_paths.proofs.Nexts.{step_positive}
use Rattle.grid_paths.proofs.PathSearches.{found_here, takes_none, takes_lowered}
use Rattle.grid_paths.proofs.Search.take.Goals as goal

pub returns-then-excess-le1 : goal.returns-then-excess-le1
returns-then-excess-le1 g c =
    let before = c.args.self.now in
    let edges = g.N.PathNet.edges c.args.net.now in
    takes_none (step_weight edges c.args.next.edge) c.args.next.node c.args.cost c.index.result.now before.found.items before.front c.requires.node c.index.ensures
    (λ w e. let positive = step_positive edges c.args.next.edge w e in omega (arith, positive, c.if-excess-le1.true, c.saturating_sub-excess.ensures))

pub returns-in-Some : goal.returns-in-Some
returns-in-Some g c =
    let before = c.args.self.now in
    let after = c.lower.new.self in
    let to = c.args.next.node in
    let weighs : step_weight (g.N.PathNet.edges c.args.net.now) c.args.next.edge ≡ Some c.in-Some.weight = sym c.step_weight.ensures ∙ c.in-Some.is in
    let here = found_here before.found.items to c.index.result.now c.requires.node c.index.ensures in
    OnOk_then c.lower.result _ _ c.lower.ensures.front
    (λ p. rw (weighs, c.lower.ensures.found) (takes_lowered c.in-Some.weight to c.args.cost before.found.items before.front after.front c.requires.node
    (omega (arith, here, c.if-excess-weight.true, c.saturating_sub-excess.ensures)) p))
