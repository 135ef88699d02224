-- The least number of each tree, and the greatest tree.
use Rattle.std.specs.Prelude.{◌≡◌, ℕ, ◌<◌, ◌≤◌, ◌⊎◌, min, Option, Some, None, List, [], ◌∷◌, length, map, slice_index, slice_set}
use Rattle.grid_graph.specs.Graph.{Graph, graph, least_joined, count_joined}
use Rattle.grid_unions.specs.declared.join.Join.{Join}
use Rattle.grid_unions.specs.Trees.{Trees, parent_of, size_at}
use Rattle.grid_unions.specs.Unions.{pair_of, before_join}

-- the least number of each root's tree, or of the tree that a node had as a root last; and the root of the greatest tree
pub record Ranking : Type 0 where
  pub firsts : List ℕ
  pub greatest : ℕ

abbrev pub ranking : List ℕ → ℕ → Ranking
ranking firsts greatest = record { firsts = firsts; greatest = greatest }

abbrev pub first_at : Ranking → ℕ → ℕ
first_at ranks x = slice_index ranks.firsts x

-- so many nodes with that least one rank at or before so many others with theirs: they are more, or as many and begin no
-- later
abbrev pub Ranks : ℕ → ℕ → ℕ → ℕ → Type 0
Ranks size first other_size other_first = (other_size < size) ⊎ ((other_size ≡ size) × (first ≤ other_first))

-- so does one root's tree before another's
abbrev pub RanksBefore : Trees → Ranking → ℕ → ℕ → Type 0
RanksBefore forest ranks x y = Ranks (size_at forest x) (first_at ranks x) (size_at forest y) (first_at ranks y)

-- the least numbers after one root was hung under another one
abbrev pub firsts_united : List ℕ → ℕ → ℕ → List ℕ
firsts_united firsts low top = slice_set firsts top (min (slice_index firsts top) (slice_index firsts low))

-- one of two roots, of which neither ranks before it
abbrev pub IsChosen : Trees → Ranking → ℕ → ℕ → Type 0
IsChosen forest ranks held top =
    ((ranks.greatest ≡ top) × RanksBefore forest ranks top held) ⊎ ((ranks.greatest ≡ held) × RanksBefore forest ranks held top)

-- the ranks before a join hung this root, if it hung one
abbrev pub ranks_before : Ranking → Trees → Option ℕ → ℕ → ℕ → Ranking
ranks_before ranks forest (Some low) first greatest = ranking (slice_set ranks.firsts (parent_of forest low) first) greatest
ranks_before ranks forest None first greatest = ranks

-- the least numbers are those of the roots' trees, and no tree ranks before the greatest
pub record IsRanked (net : Graph) (forest : Trees) (ranks : Ranking) : Type 0 where
  pub long : length ranks.firsts ≡ net.nodes
  pub firsts : (x : ℕ) → x < net.nodes → parent_of forest x ≡ x → first_at ranks x ≡ least_joined net x
  pub greatest : 0 < net.nodes → (ranks.greatest < net.nodes) × (parent_of forest ranks.greatest ≡ ranks.greatest)
  pub most : (x : ℕ) → x < net.nodes → parent_of forest x ≡ x → RanksBefore forest ranks ranks.greatest x

-- the ranks are those of the joins, of which the newest comes first, and so are the ranks before each of them
abbrev pub AreRanked : ℕ → List Join → Trees → Ranking → Type 0
AreRanked count [] forest ranks = IsRanked (graph count []) forest ranks
AreRanked count (join ∷ older) forest ranks =
    IsRanked (graph count (pair_of join ∷ map pair_of older)) forest ranks
    × AreRanked count older (before_join forest join.hung) (ranks_before ranks forest join.hung join.first join.greatest)

-- a number that is the least of its class, and no class has more numbers, nor as many and a lesser number
pub record IsGreatest (net : Graph) (number : ℕ) : Type 0 where
  pub below : number < net.nodes
  pub least : least_joined net number ≡ number
  pub most : (x : ℕ) → x < net.nodes → Ranks (count_joined net number) number (count_joined net x) (least_joined net x)
