use Rattle.std.proofs.Common.{◌≡◌, ◌∙◌, ℕ, length, reverse, subst, arith}
use Rattle.grid_graph.specs.Graph.{Graph, least_joined}
use Rattle.grid_unions.proofs.JoinReversals.{graph_of, right_forest}
use Rattle.grid_unions.proofs.TreeRanks.{ranks_of}
use Rattle.grid_unions.proofs.unions.Unions.least.Goals as goal

pub root-requires-clause-kept : goal.root-requires-clause-kept
root-requires-clause-kept c =
    let u = c.self.inside in
    (graph_of (length u.forest.parents) (reverse u.joins), right_forest (length u.forest.parents) (reverse u.joins) u.forest c.self.invariant.1.0)

pub first-requires : goal.first-requires
first-requires c =
    let u = c.self.inside in
    let count : ℕ = length u.forest.parents in
    let net : Graph = graph_of count (reverse u.joins) in
    let f = right_forest count (reverse u.joins) u.forest c.self.invariant.1.0 in
    let g = ranks_of count (reverse u.joins) u.forest u.ranks c.self.invariant.1.1 in
    omega (arith, c.root.ensures.below, g.long)

pub returns : goal.returns
returns c =
    let u = c.self.inside in
    let count : ℕ = length u.forest.parents in
    let net : Graph = graph_of count (reverse u.joins) in
    let f = right_forest count (reverse u.joins) u.forest c.self.invariant.1.0 in
    let g = ranks_of count (reverse u.joins) u.forest u.ranks c.self.invariant.1.1 in
    let P : Graph → Type 0 = λ n. c.first.result ≡ least_joined n c.args.a in
    subst P c.self.view_is (c.first.ensures ∙ g.firsts c.root.result c.root.ensures.below c.root.ensures.root ∙ c.root.ensures.same net f)
