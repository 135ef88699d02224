-- Paths over a list of edges, and those of least measure.
use Rattle.std.specs.Prelude.{ℕ, zero, suc, Bool, true, false, not, ◌&&◌, ◌==◌, if◌then◌else◌, Option, Some, None, List, [], ◌∷◌, length, map, filter, flat_map, count_by, slice_get, unwrap_or, eqb}
use Rattle.std.specs.List.{list_any, enumerate_from}
use Rattle.std.specs.declared.cmp.Ordering.{Ordering}
use Rattle.std.specs.Ordering.{nat_cmp, then_cmp, on, is_lt}
use Rattle.std.specs.Cmp.Lexicographic.{slice_cmp}

unfoldable pub has_node : List ℕ → ℕ → Bool
has_node ns n = list_any (eqb n) ns

infixl 10 ◌>>=◌
abbrev pub ◌>>=◌ : {A B : Type 0} → Option A → (A → Option B) → Option B
(Some x) >>= f = f x
None >>= f = None

-- the last of a list, or else a
unfoldable pub last_in : ℕ → List ℕ → ℕ
last_in a [] = a
last_in a (n ∷ rest) = last_in n rest

unfoldable pub all_differ : List ℕ → Bool
all_differ [] = true
all_differ (n ∷ rest) = not (has_node rest n) && all_differ rest

-- the other end of an edge that has a among its ends
unfoldable pub across : ℕ → ℕ × ℕ → Option ℕ
across a pair = if pair.0 == a then Some pair.1 else if pair.1 == a then Some pair.0 else None

-- the nodes that a list of places of edges visits from a, if each edge goes on from where the one before ended
unfoldable pub visited : List (ℕ × ℕ) → ℕ → List ℕ → Option (List ℕ)
visited edges a [] = Some (a ∷ [])
visited edges a (place ∷ rest) = do
  pair ← slice_get edges place
  c ← across a pair
  nodes ← visited edges c rest
  Some (a ∷ nodes)

unfoldable pub differ_if_some : Option (List ℕ) → Bool
differ_if_some (Some nodes) = all_differ nodes
differ_if_some None = false

-- it visits nodes that all differ
unfoldable pub is_path : List (ℕ × ℕ) → ℕ → List ℕ → Bool
is_path edges a path = differ_if_some (visited edges a path)

-- where a path ends
unfoldable pub last_node : List (ℕ × ℕ) → ℕ → List ℕ → ℕ
last_node edges a path = last_in a (unwrap_or (visited edges a path) [])

-- ---- the measure

-- two paths by the count of places that cost, then by the count of places, then by the list, item by item
unfoldable pub measure_cmp : (ℕ → Bool) → List ℕ → List ℕ → Ordering
measure_cmp costs = then_cmp (on (count_by costs) nat_cmp) (then_cmp (on length nat_cmp) (slice_cmp nat_cmp))

-- the first of two paths has the lesser measure
unfoldable pub is_better : (ℕ → Bool) → List ℕ → List ℕ → Bool
is_better costs p q = is_lt (measure_cmp costs p q)

unfoldable pub better_of : (ℕ → Bool) → List ℕ → Option (List ℕ) → List ℕ
better_of costs p None = p
better_of costs p (Some q) = if is_better costs q p then q else p

-- the least of a list of paths
unfoldable pub least_path : (ℕ → Bool) → List (List ℕ) → Option (List ℕ)
least_path costs [] = None
least_path costs (p ∷ rest) = Some (better_of costs p (least_path costs rest))

-- ---- every path

-- an edge's place with its end across from a, if it has one
unfoldable pub step_over : ℕ → Option ℕ → List (ℕ × ℕ)
step_over place (Some c) = (place, c) ∷ []
step_over place None = []

-- the places of the edges at a, each with the other end
unfoldable pub steps_from : List (ℕ × ℕ) → ℕ → List (ℕ × ℕ)
steps_from edges a = flat_map (λ e. step_over e.0 (across a e.1)) (enumerate_from 0 edges)

-- the paths from a of at most so many edges that visit no node of the list seen
unfoldable pub paths_beyond : List (ℕ × ℕ) → ℕ → List ℕ → ℕ → List (List ℕ)
paths_beyond edges zero seen a = [] ∷ []
paths_beyond edges (suc k) seen a =
    [] ∷ flat_map (λ s. map (λ rest. s.0 ∷ rest) (paths_beyond edges k (s.1 ∷ seen) s.1)) (filter (λ s. not (has_node seen s.1)) (steps_from edges a))

-- all paths from a of at most so many edges
unfoldable pub paths_from : List (ℕ × ℕ) → ℕ → ℕ → List (List ℕ)
paths_from edges count a = paths_beyond edges count (a ∷ []) a
