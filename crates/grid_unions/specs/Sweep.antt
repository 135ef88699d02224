-- Many graphs over the same numbers that have most of their pairs in common, and what is found of each.
use Rattle.std.specs.Prelude.{◌≡◌, ℕ, ◌<◌, ◌==◌, Bool, not, List, ◌++◌, length, map, filter, slice_index_or, All}
use Rattle.std.specs.List.{list_any}
use Rattle.grid_graph.specs.Components.{places}
use Rattle.grid_graph.specs.Graph.{Graph, graph, EndsBelow, count_joined}
use Rattle.grid_graph.specs.Joined.{groups}
use Rattle.grid_unions.specs.Ranks.{IsGreatest}
use Rattle.grid_unions.specs.Summed.{class_sum}
use Rattle.grid_unions.specs.declared.summed.Sums.{Sums}
use Rattle.grid_unions.specs.declared.sweeps.Change.{Change}
use Rattle.grid_unions.specs.declared.sweeps.Found.{Found}

-- ---- graphs

-- a place is among others
unfoldable pub is_among : List ℕ → ℕ → Bool
is_among gone place = list_any (λ other. other == place) gone

abbrev pub pair_at : List (ℕ × ℕ) → ℕ → ℕ × ℕ
pair_at common place = slice_index_or common place (0, 0)

-- the common pairs whose places are not among those that are gone
unfoldable pub kept : List (ℕ × ℕ) → List ℕ → List (ℕ × ℕ)
kept common gone = map (pair_at common) (filter (λ place. not (is_among gone place)) (places (length common)))

-- the graph of a change: the common pairs but for those that are gone, and its own pairs
abbrev pub changed : ℕ → List (ℕ × ℕ) → Change → Graph
changed count common change = graph count (kept common change.gone ++ change.own)

-- what is gone are places of common pairs, and both ends of each own pair are below the count
pub record IsFitting (count : ℕ) (common : List (ℕ × ℕ)) (change : Change) : Type 0 where
  pub gone : All (λ place. place < length common) change.gone
  pub own : EndsBelow change.own count

-- ---- what is found

-- how many classes a graph has, the least number of its greatest class, how many numbers that class has, and their sums
pub record IsFound (weights : List Sums) (net : Graph) (found : Found) : Type 0 where
  pub classes : found.classes ≡ length (groups (places net.nodes) net.pairs)
  pub main : IsGreatest net found.main
  pub size : found.size ≡ count_joined net found.main
  pub load : found.sums.load ≡ class_sum (λ s. s.load) net weights found.main
  pub generation : found.sums.generation ≡ class_sum (λ s. s.generation) net weights found.main

-- it is found of the graph of a change, whose numbers have these weights
abbrev pub IsFoundOf : List Sums → List (ℕ × ℕ) → Change → Found → Type 0
IsFoundOf weights common change found = IsFound weights (changed (length weights) common change) found
