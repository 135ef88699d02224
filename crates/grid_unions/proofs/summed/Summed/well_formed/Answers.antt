use Rattle.std.proofs.Common.{◌≡◌, ◌∙◌, length, reverse, subst}
use Rattle.grid_unions.specs.Summed.{Weighted, sums_before}
use Rattle.grid_unions.proofs.ClassSums.{summed_now, weights_long}
use Rattle.grid_unions.proofs.summed.Summed.well_formed.Goals as goal

pub returns-clause-long : goal.returns-clause-long
returns-clause-long c =
    let u = c.self.inside in
    let older = reverse u.replaced in
    let P : Weighted → Type 0 = λ w. length w.weights ≡ w.net.nodes in
    let s = summed_now u.unions.nodes u.unions.pairs (sums_before u.sums older) older u.sums c.self.invariant in
    subst P c.self.view_is (weights_long u.sums older ∙ s.long)
