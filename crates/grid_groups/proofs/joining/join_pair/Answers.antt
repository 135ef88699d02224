use Rattle.std.proofs.Common.{subst, ℕ, [], ◌∷◌, ◌++◌, length, arith}
use Rattle.grid_graph.specs.Graph.{graph}
use Rattle.grid_queue.specs.Parents.{AreLabelsOf}
use Rattle.grid_level.specs.Passing.{nodes}
use Rattle.grid_groups.specs.Labels.{index_in, pair_by_index}
use Rattle.grid_groups.proofs.Indices.{among_In, index_below}
use Rattle.grid_groups.proofs.joining.join_pair.Goals as goal

pub join-requires-clause-a : goal.join-requires-clause-a
join-requires-clause-a c =
    let ns = nodes c.args.indices.now in
    omega (arith, c.of_node.ensures, index_below c.args.node1 ns (among_In c.args.node1 ns c.requires.first), c.requires.long)

pub join-requires-clause-b : goal.join-requires-clause-b
join-requires-clause-b c =
    let ns = nodes c.args.indices.now in
    omega (arith, c.of_node-2.ensures, index_below c.args.node2 ns (among_In c.args.node2 ns c.requires.second), c.requires.long)

pub returns-clause-joined : goal.returns-clause-joined
unfolding pair_by_index
returns-clause-joined c pairs labels =
    let count : ℕ = length (nodes c.args.indices.now) in
    let P : ℕ → ℕ → Type 0 = λ a b. AreLabelsOf (graph count (pairs ++ (a, b) ∷ [])) c.join.new.self in
    let joined : P c.of_node.result c.of_node-2.result = c.join.ensures.labels (graph count pairs) labels in
    subst (λ z. P (index_in (nodes c.args.indices.now) c.args.node1) z) c.of_node-2.ensures (subst (λ z. P z c.of_node-2.result) c.of_node.ensures joined)
