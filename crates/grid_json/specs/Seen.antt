-- Sets of ids.
use Rattle.std.specs.Prelude.{◌≡◌, ℕ, List}
use Rattle.grid_ids.specs.Name.{has_id}

-- the ids that were seen are these, in whatever order
abbrev pub Knows : List (List ℕ) → List (List ℕ) → Type 0
Knows seen ids = (q : List ℕ) → has_id seen q ≡ has_id ids q
