-- Links by the levels of their ends.
use Rattle.std.specs.Prelude.{ℕ, ◌==◌, ◌||◌, Bool, List, length, map, filter}
use Rattle.std.specs.List.{slice_index_or}
use Rattle.grid_graph.specs.Components.{places}

-- one of two ends is at a level
abbrev pub is_end : ℕ → ℕ × ℕ → Bool
is_end level ends = (ends.0 == level) || (ends.1 == level)

-- the ends at a place
abbrev pub ends_at : List (ℕ × ℕ) → ℕ → ℕ × ℕ
ends_at ends place = slice_index_or ends place (0, 0)

-- the places at which one end is at a level, rising
unfoldable pub places_at : List (ℕ × ℕ) → ℕ → List ℕ
places_at ends level = filter (λ place. is_end level (ends_at ends place)) (places (length ends))

-- those of each level
unfoldable pub end_places : ℕ → List (ℕ × ℕ) → List (List ℕ)
end_places count ends = map (places_at ends) (places count)
