use Rattle.std.proofs.Common.{length, reverse, subst}
use Rattle.grid_graph.specs.Graph.{Graph, EndsBelow}
use Rattle.grid_unions.proofs.JoinReversals.{right_forest}
use Rattle.grid_unions.proofs.unions.Unions.ends_below.Goals as goal

pub returns : goal.returns
returns c =
    let u = c.self.inside in
    let P : Graph → Type 0 = λ g. EndsBelow g.pairs g.nodes in
    subst P c.self.view_is (right_forest (length u.forest.parents) (reverse u.joins) u.forest c.self.invariant.1.0).ends
