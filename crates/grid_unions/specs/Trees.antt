-- Trees over numbered nodes: what each node points to, and what is known at each node.
use Rattle.std.specs.Prelude.{◌≡◌, ◌≢◌, ℕ, ◌+◌, ◌-◌, ◌<◌, ◌≤◌, ◌==◌, List, length, count_by, slice_index, slice_set}
use Rattle.grid_graph.specs.Components.{places}
use Rattle.grid_graph.specs.Graph.{Graph, EndsBelow, least_joined, count_joined}

-- what each node points to, a root to itself; the size of each root's tree, or of the tree that a node had as a root
-- last; and how many roots there are
pub record Trees : Type 0 where
  pub parents : List ℕ
  pub sizes : List ℕ
  pub roots : ℕ

abbrev pub trees : List ℕ → List ℕ → ℕ → Trees
trees parents sizes roots = record { parents = parents; sizes = sizes; roots = roots }

abbrev pub parent_of : Trees → ℕ → ℕ
parent_of forest x = slice_index forest.parents x

abbrev pub size_at : Trees → ℕ → ℕ
size_at forest x = slice_index forest.sizes x

-- one root points to another one
abbrev pub hung : Trees → ℕ → ℕ → Trees
hung forest low top =
    trees (slice_set forest.parents low top) (slice_set forest.sizes top (size_at forest top + size_at forest low)) (forest.roots - 1)

-- the node is a root again
abbrev pub unhung : Trees → ℕ → Trees
unhung forest low =
    trees (slice_set forest.parents low low) (slice_set forest.sizes (parent_of forest low) (size_at forest (parent_of forest low) - size_at forest low))
    (forest.roots + 1)

-- how many nodes are the least of those that are joined to them
unfoldable pub count_least : Graph → ℕ
count_least net = count_by (λ x. least_joined net x == x) (places net.nodes)

-- each tree is a class of joined nodes, and sizes rise on the way to its root
pub record IsForest (net : Graph) (forest : Trees) : Type 0 where
  pub ends : EndsBelow net.pairs net.nodes
  pub long : length forest.parents ≡ net.nodes
  pub sizes_long : length forest.sizes ≡ net.nodes
  pub up : (x : ℕ) → x < net.nodes → parent_of forest x < net.nodes
  pub rise : (x : ℕ) → x < net.nodes → parent_of forest x ≢ x → size_at forest x < size_at forest (parent_of forest x)
  pub few : (x : ℕ) → x < net.nodes → size_at forest x ≤ net.nodes
  pub near : (x : ℕ) → x < net.nodes → least_joined net (parent_of forest x) ≡ least_joined net x
  pub apart : (x y : ℕ) → x < net.nodes → y < net.nodes → parent_of forest x ≡ x → parent_of forest y ≡ y → least_joined net x ≡ least_joined net y → x ≡ y
  pub sizes : (x : ℕ) → x < net.nodes → parent_of forest x ≡ x → size_at forest x ≡ count_joined net x
  pub roots : forest.roots ≡ count_least net

-- in some graph
abbrev pub IsKept : Trees → Type 0
IsKept forest = (net : Graph) × IsForest net forest

-- the node points to another one, so that it can be a root again
pub record IsHung (forest : Trees) (low : ℕ) : Type 0 where
  pub below : low < length forest.parents
  pub inside : parent_of forest low < length forest.sizes
  pub other : parent_of forest low ≢ low
  pub less : size_at forest low ≤ size_at forest (parent_of forest low)
