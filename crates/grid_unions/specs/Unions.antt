-- Joins one after the other, and the trees that they make.
use Rattle.std.specs.Prelude.{ℕ, Option, Some, None, List, [], ◌∷◌, map}
use Rattle.grid_graph.specs.Graph.{Graph, graph}
use Rattle.grid_unions.specs.Trees.{Trees, unhung, IsForest, IsHung}
use Rattle.grid_unions.specs.declared.join.Join.{Join}

-- the graph with one pair more, which is the newest
abbrev pub with_newest : Graph → ℕ → ℕ → Graph
with_newest net a b = graph net.nodes ((a, b) ∷ net.pairs)

abbrev pub pair_of : Join → ℕ × ℕ
pair_of join = (join.a, join.b)

-- the trees before a join hung this root, if it hung one
abbrev pub before_join : Trees → Option ℕ → Trees
before_join forest (Some low) = unhung forest low
before_join forest None = forest

-- a root that was hung can be taken back
abbrev pub CanTakeBack : Trees → Option ℕ → Type 0
CanTakeBack forest (Some low) = IsHung forest low
CanTakeBack forest None = Unit {0}

-- the trees are those of the joins, of which the newest comes first, and so are the trees before each of them
abbrev pub AreRight : ℕ → List Join → Trees → Type 0
AreRight count [] forest = IsForest (graph count []) forest
AreRight count (join ∷ older) forest =
    IsForest (graph count (pair_of join ∷ map pair_of older)) forest
    × (CanTakeBack forest join.hung × AreRight count older (before_join forest join.hung))
