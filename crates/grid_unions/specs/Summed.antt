-- Sums over the classes of joined numbers, each of which has a weight.
use Rattle.std.specs.Prelude.{◌≡◌, ℕ, ◌<◌, ℤ, pos, ◌+ℤ◌, ◌==◌, if◌then◌else◌, List, [], ◌∷◌, length, fold, zip, slice_index_or, slice_set}
use Rattle.grid_graph.specs.Components.{places}
use Rattle.grid_graph.specs.Graph.{Graph, graph, EndsBelow, joined_in, least_joined}
use Rattle.grid_unions.specs.declared.summed.Sums.{Sums}
use Rattle.grid_unions.specs.declared.summed.Replaced.{Replaced}

-- a graph, and for each of its numbers a weight
pub record Weighted : Type 0 where
  pub net : Graph
  pub weights : List Sums

abbrev pub weighted : Graph → List Sums → Weighted
weighted net weights = record { net = net; weights = weights }

-- with the weight of a number, if it is joined to a
abbrev pub add_joined : (Sums → ℤ) → Graph → ℕ → ℤ → ℕ × Sums → ℤ
add_joined watts net a total at = if joined_in net a at.0 then total +ℤ watts at.1 else total

-- the sum of some watts over the numbers that are joined to a
unfoldable pub class_sum : (Sums → ℤ) → Graph → List Sums → ℕ → ℤ
class_sum watts net weights a = fold (add_joined watts net a) (pos 0) (zip (places net.nodes) weights)

-- ---- what is kept

abbrev pub no_sums : Sums
no_sums = record { load = pos 0; generation = pos 0 }

-- for each number that is the least of its class, the sum of some watts over the class
abbrev pub AreSumsOf : (Sums → ℤ) → Graph → List Sums → List Sums → Type 0
AreSumsOf watts net weights sums =
    (x : ℕ) → x < net.nodes → least_joined net x ≡ x
    → watts (slice_index_or sums x no_sums) ≡ class_sum watts net weights x

-- the sum of some watts over a class, or over two together, of which these are the least numbers
abbrev pub sum_of_both : (Sums → ℤ) → List Sums → ℕ → ℕ → ℤ
sum_of_both watts sums first second =
    if first == second then watts (slice_index_or sums first no_sums)
    else watts (slice_index_or sums first no_sums) +ℤ watts (slice_index_or sums second no_sums)

pub record IsSummed (net : Graph) (weights sums : List Sums) : Type 0 where
  pub ends : EndsBelow net.pairs net.nodes
  pub long : length sums ≡ net.nodes
  pub load : AreSumsOf (λ s. s.load) net weights sums
  pub generation : AreSumsOf (λ s. s.generation) net weights sums

-- the sums before those that replaced these, of which the newest come first
abbrev pub sums_before : List Sums → List Replaced → List Sums
sums_before sums [] = sums
sums_before sums (r ∷ older) = sums_before (slice_set sums r.place r.sums) older

-- the sums are those of the graph, and so are the sums before each of its pairs
abbrev pub AreSummed : ℕ → List (ℕ × ℕ) → List Sums → List Replaced → List Sums → Type 0
AreSummed count [] weights [] sums = IsSummed (graph count []) weights sums
AreSummed count (pair ∷ pairs) weights (r ∷ older) sums =
    IsSummed (graph count (pair ∷ pairs)) weights sums
    × ((r.place < count) × AreSummed count pairs weights older (slice_set sums r.place r.sums))
AreSummed count pairs weights replaced sums = ⊥
