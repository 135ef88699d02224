use Rattle.std.proofs.Common.{◌≡◌, ◌<◌, ℕ, length, reverse, subst, sym, arith}
use Rattle.grid_graph.specs.Graph.{Graph}
use Rattle.grid_unions.specs.Ranks.{IsGreatest}
use Rattle.grid_unions.proofs.JoinReversals.{graph_of, right_forest}
use Rattle.grid_unions.proofs.TreeRanks.{ranks_of, is_greatest_class}
use Rattle.grid_unions.specs.Ranks.{first_at}
use Rattle.grid_unions.proofs.unions.Unions.greatest.Goals as goal

pub first-requires : goal.first-requires
first-requires c =
    let u = c.self.inside in
    let count : ℕ = length u.forest.parents in
    let net : Graph = graph_of count (reverse u.joins) in
    let f = right_forest count (reverse u.joins) u.forest c.self.invariant.1.0 in
    let g = ranks_of count (reverse u.joins) u.forest u.ranks c.self.invariant.1.1 in
    let Q : Graph → Type 0 = λ n. 0 < n.nodes in
    let some : 0 < count = subst Q (sym c.self.view_is) c.requires in
    omega (arith, c.greatest.ensures, (g.greatest some).0, g.long)

pub returns : goal.returns
returns c =
    let u = c.self.inside in
    let count : ℕ = length u.forest.parents in
    let net : Graph = graph_of count (reverse u.joins) in
    let f = right_forest count (reverse u.joins) u.forest c.self.invariant.1.0 in
    let g = ranks_of count (reverse u.joins) u.forest u.ranks c.self.invariant.1.1 in
    let Q : Graph → Type 0 = λ n. 0 < n.nodes in
    let some : 0 < count = subst Q (sym c.self.view_is) c.requires in
    let P : Graph → Type 0 = λ n. IsGreatest n c.first.result in
    let R : ℕ → Type 0 = λ z. c.first.result ≡ first_at u.ranks z in
    let S : ℕ → Type 0 = λ z. IsGreatest net z in
    subst P c.self.view_is (subst S (sym (subst R c.greatest.ensures c.first.ensures)) (is_greatest_class net u.forest f u.ranks g some))
