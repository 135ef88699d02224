-- Graphs: a number of nodes, counted from 0, and the pairs that join them.
use Rattle.std.specs.Prelude.{ℕ, ◌<◌, Bool, List, map, count_by, slice_index, All}
use Rattle.grid_graph.specs.Joined.{joined, group_of}
use Rattle.grid_graph.specs.Components.{places}

-- the nodes below a count, and a list of pairs
pub record Graph : Type 0 where
  pub nodes : ℕ
  pub pairs : List (ℕ × ℕ)

abbrev pub graph : ℕ → List (ℕ × ℕ) → Graph
graph nodes pairs = record { nodes = nodes; pairs = pairs }

-- both ends of each pair are below a count
abbrev pub EndsBelow : List (ℕ × ℕ) → ℕ → Type 0
EndsBelow pairs count = All (λ pair. (pair.0 < count) × (pair.1 < count)) pairs

-- b is joined to a
unfoldable pub joined_in : Graph → ℕ → ℕ → Bool
joined_in net a b = joined (places net.nodes) net.pairs a b

-- the least node that is joined to a
unfoldable pub least_joined : Graph → ℕ → ℕ
least_joined net a = slice_index (group_of (places net.nodes) net.pairs a) 0

-- for each node, the least node that is joined to it
unfoldable pub labels_of : Graph → List ℕ
labels_of net = map (least_joined net) (places net.nodes)

-- how many nodes are joined to a
unfoldable pub count_joined : Graph → ℕ → ℕ
count_joined net a = count_by (joined_in net a) (places net.nodes)
