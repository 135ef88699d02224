use Rattle.std.proofs.Common.{◌≡◌, ◌<◌, sym, List, reverse, subst, arith}
use Rattle.grid_graph.proofs.Below.{pairs_below}
use Rattle.grid_graph.proofs.Least.{least_below}
use Rattle.grid_unions.specs.declared.summed.Sums.{Sums}
use Rattle.grid_unions.specs.Summed.{Weighted, class_sum, sums_before}
use Rattle.grid_unions.proofs.ClassSums.{summed_now, sum_at_least}
use Rattle.grid_unions.proofs.summed.Summed.sums.Goals as goal

pub index-requires : goal.index-requires
index-requires c =
    let u = c.self.inside in
    let older = reverse u.replaced in
    let s = summed_now u.unions.nodes u.unions.pairs (sums_before u.sums older) older u.sums c.self.invariant in
    let A : Weighted → Type 0 = λ w. c.args.a < w.net.nodes in
    let lt : c.args.a < u.unions.nodes = subst A (sym c.self.view_is) c.requires in
    omega (arith, s.long, c.least.ensures, least_below u.unions c.args.a (pairs_below u.unions.nodes u.unions.pairs s.ends) lt)

pub returns-clause-load : goal.returns-clause-load
returns-clause-load c =
    let u = c.self.inside in
    let older = reverse u.replaced in
    let ws : List Sums = sums_before u.sums older in
    let s = summed_now u.unions.nodes u.unions.pairs ws older u.sums c.self.invariant in
    let A : Weighted → Type 0 = λ w. c.args.a < w.net.nodes in
    let lt : c.args.a < u.unions.nodes = subst A (sym c.self.view_is) c.requires in
    let P : Weighted → Type 0 = λ w. c.index.result.now.load ≡ class_sum (λ s. s.load) w.net w.weights c.args.a in
    subst P c.self.view_is (sum_at_least (λ s. s.load) u.unions ws u.sums c.args.a c.least.result c.index.result.now s.ends s.load s.long lt c.least.ensures c.index.ensures)

pub returns-clause-generation : goal.returns-clause-generation
returns-clause-generation c =
    let u = c.self.inside in
    let older = reverse u.replaced in
    let ws : List Sums = sums_before u.sums older in
    let s = summed_now u.unions.nodes u.unions.pairs ws older u.sums c.self.invariant in
    let A : Weighted → Type 0 = λ w. c.args.a < w.net.nodes in
    let lt : c.args.a < u.unions.nodes = subst A (sym c.self.view_is) c.requires in
    let P : Weighted → Type 0 = λ w. c.index.result.now.generation ≡ class_sum (λ s. s.generation) w.net w.weights c.args.a in
    subst P c.self.view_is (sum_at_least (λ s. s.generation) u.unions ws u.sums c.args.a c.least.result c.index.result.now s.ends s.generation s.long lt c.least.ensures c.index.ensures)
