-- A variant as it is seen: its name, its slot, and what it has of each level, and its sums.
use Rattle.std.specs.Prelude.{ℕ, List}
use Rattle.grid_states.specs.Rows.{Rows}

pub record Variant : Type 0 where
  pub name : List ℕ
  pub slot : ℕ
  pub rows : Rows
