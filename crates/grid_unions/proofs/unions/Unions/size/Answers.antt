use Rattle.std.proofs.Common.{◌≡◌, ◌<◌, ◌∙◌, length, reverse, subst, sym, arith}
use Rattle.grid_graph.specs.Graph.{Graph, count_joined}
use Rattle.grid_graph.proofs.Below.{pairs_below}
use Rattle.grid_graph.proofs.Least.{joined_from_least}
use Rattle.grid_components.proofs.Sizes.{count_same}
use Rattle.grid_unions.proofs.JoinReversals.{graph_of, right_forest}
use Rattle.grid_unions.proofs.unions.Unions.size.Goals as goal

pub root-requires-clause-kept : goal.root-requires-clause-kept
root-requires-clause-kept c =
    let u = c.self.inside in
    (graph_of (length u.forest.parents) (reverse u.joins), right_forest (length u.forest.parents) (reverse u.joins) u.forest c.self.invariant.1.0)

pub size-requires : goal.size-requires
size-requires c =
    let u = c.self.inside in
    let f = right_forest (length u.forest.parents) (reverse u.joins) u.forest c.self.invariant.1.0 in
    omega (arith, c.root.ensures.below, f.sizes_long)

pub returns : goal.returns
returns c =
    let u = c.self.inside in
    let P : Graph → Type 0 = λ g. c.size.result ≡ count_joined g c.args.a in
    let Q : Graph → Type 0 = λ g. c.args.a < g.nodes in
    let net : Graph = graph_of (length u.forest.parents) (reverse u.joins) in
    let f = right_forest (length u.forest.parents) (reverse u.joins) u.forest c.self.invariant.1.0 in
    let fit = pairs_below net.nodes net.pairs f.ends in
    let lt : c.root.result < net.nodes = c.root.ensures.below in
    let less : c.args.a < net.nodes = subst Q (sym c.self.view_is) c.requires in
    subst P c.self.view_is
    (c.size.ensures ∙ f.sizes c.root.result lt c.root.ensures.root
    ∙ count_same net c.root.result c.args.a fit lt (joined_from_least net c.root.result c.args.a fit lt less (c.root.ensures.same net f)))
