use Rattle.std.proofs.Common.{◌≡◌, ◌∙◌, length, reverse, subst}
use Rattle.grid_graph.specs.Components.{places}
use Rattle.grid_graph.specs.Graph.{Graph}
use Rattle.grid_graph.specs.Joined.{groups}
use Rattle.grid_graph.proofs.Below.{pairs_below}
use Rattle.grid_unions.proofs.JoinReversals.{graph_of, right_forest}
use Rattle.grid_unions.proofs.UnionCounts.{count_groups}
use Rattle.grid_unions.proofs.unions.Unions.classes.Goals as goal

pub returns : goal.returns
returns c =
    let u = c.self.inside in
    let P : Graph → Type 0 = λ g. c.roots.result ≡ length (groups (places g.nodes) g.pairs) in
    let net : Graph = graph_of (length u.forest.parents) (reverse u.joins) in
    let f = right_forest (length u.forest.parents) (reverse u.joins) u.forest c.self.invariant.1.0 in
    subst P c.self.view_is (c.roots.ensures ∙ f.roots ∙ count_groups net (pairs_below net.nodes net.pairs f.ends))
