use Rattle.std.proofs.Common.{◌≡◌, ◌<◌, ℕ, length, reverse, subst, sym}
use Rattle.std.specs.Prelude.{eqb}
use Rattle.grid_graph.specs.Graph.{Graph, joined_in}
use Rattle.grid_unions.proofs.JoinReversals.{graph_of, right_forest}
use Rattle.grid_unions.proofs.Trees.{same_roots}
use Rattle.grid_unions.proofs.unions.Unions.are_joined.Goals as goal

pub root-requires-clause-kept : goal.root-requires-clause-kept
root-requires-clause-kept c =
    let u = c.self.inside in
    (graph_of (length u.forest.parents) (reverse u.joins), right_forest (length u.forest.parents) (reverse u.joins) u.forest c.self.invariant.1.0)

pub root-requires-2-clause-kept : goal.root-requires-2-clause-kept
root-requires-2-clause-kept c =
    let u = c.self.inside in
    (graph_of (length u.forest.parents) (reverse u.joins), right_forest (length u.forest.parents) (reverse u.joins) u.forest c.self.invariant.1.0)

pub returns : goal.returns
returns c =
    let u = c.self.inside in
    let first : ℕ = c.root.result in
    let second : ℕ = c.root-2.result in
    let P : Graph → Type 0 = λ g. eqb first second ≡ joined_in g c.args.a c.args.b in
    let A : Graph → Type 0 = λ g. c.args.a < g.nodes in
    let B : Graph → Type 0 = λ g. c.args.b < g.nodes in
    let net : Graph = graph_of (length u.forest.parents) (reverse u.joins) in
    let f = right_forest (length u.forest.parents) (reverse u.joins) u.forest c.self.invariant.1.0 in
    subst P c.self.view_is
    (same_roots net u.forest c.args.a c.args.b first second f (subst A (sym c.self.view_is) c.requires.a) (subst B (sym c.self.view_is) c.requires.b)
    (record { below = c.root.ensures.below; own = c.root.ensures.root; same = c.root.ensures.same net f })
    (record { below = c.root-2.ensures.below; own = c.root-2.ensures.root; same = c.root-2.ensures.same net f }))
