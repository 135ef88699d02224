-- Routes: paths over edges that aren't barred, from a node to a goal, and those of least measure.
use Rattle.std.specs.Prelude.{ℕ, ◌<◌, Bool, true, false, not, ◌&&◌, Option, Some, None, List, map, slice_get, All, IsTrue}
use Rattle.std.specs.List.{list_all, slice_index_or}
use Rattle.grid_paths.specs.declared.Way.{Way}
use Rattle.grid_paths.specs.declared.Way.TheVariants.{Free, Closable, Barred}
use Rattle.grid_paths.specs.Paths.{is_path, last_node, is_better}

-- an edge that joins two nodes, and what it takes to pass it from either
pub record PathEdge : Type 0 where
  pub a : ℕ
  pub b : ℕ
  pub way : Way

abbrev pub ends_of : PathEdge → ℕ × ℕ
ends_of edge = (edge.a, edge.b)

unfoldable pub all_ends : List PathEdge → List (ℕ × ℕ)
all_ends edges = map ends_of edges

-- an edge that has to be closed
abbrev pub is_closable : Way → Bool
is_closable Free = false
is_closable Closable = true
is_closable Barred = false

abbrev pub is_open_way : Way → Bool
is_open_way Free = true
is_open_way Closable = true
is_open_way Barred = false

unfoldable pub costs_on : Option PathEdge → Bool
costs_on (Some edge) = is_closable edge.way
costs_on None = false

-- the edge at this place has to be closed
unfoldable pub costs : List PathEdge → ℕ → Bool
costs edges place = costs_on (slice_get edges place)

unfoldable pub passes_on : Option PathEdge → Bool
passes_on (Some edge) = is_open_way edge.way
passes_on None = false

-- the edge at this place isn't barred
unfoldable pub passes : List PathEdge → ℕ → Bool
passes edges place = passes_on (slice_get edges place)

abbrev pub is_goal : List Bool → ℕ → Bool
is_goal goals node = slice_index_or goals node false

-- a path from a node to a goal, over edges that aren't barred
unfoldable pub is_route : List PathEdge → List Bool → ℕ → List ℕ → Bool
is_route edges goals from path =
    is_path (all_ends edges) from path
    && is_goal goals (last_node (all_ends edges) from path)
    && list_all (passes edges) path

-- no route is better than this one
pub record IsLeastRoute (edges : List PathEdge) (goals : List Bool) (from : ℕ) (path : List ℕ) : Type 0 where
  pub route : IsTrue (is_route edges goals from path)
  pub least : (other : List ℕ) → IsTrue (is_route edges goals from other) → IsTrue (not (is_better (costs edges) other path))

-- the ends of the edges are below a count
abbrev pub EndsBelow : List PathEdge → ℕ → Type 0
EndsBelow edges count = All (λ edge. (edge.a < count) × (edge.b < count)) edges
