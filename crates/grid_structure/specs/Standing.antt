-- Where the terminals of an equipment stand in a level.
use Rattle.std.specs.Prelude.{ℕ, Bool, ◌&&◌, ◌==◌, ◌≡◌, IsTrue, List}
use Rattle.std.specs.List.{list_any}
use Rattle.grid_ids.specs.Name.{same_id}
use Rattle.grid_level.specs.declared.Placed.{Placed}

-- the terminal of this side of the equipment, at this node
abbrev pub stands : List ℕ → ℕ → ℕ → Placed → Bool
stands id side node p = (same_id id p.terminal.equipment && (p.terminal.side == side)) && (p.node == node)

-- the terminal of the side stands at no two nodes
abbrev pub HasOneNode : List ℕ → ℕ → List Placed → Type 0
HasOneNode id side placed = (m n : ℕ) → IsTrue (list_any (stands id side m) placed) → IsTrue (list_any (stands id side n) placed) → m ≡ n
