-- What a reader needs of a tree.
use Rattle.std.specs.Prelude.{◌≡◌, ℕ, ◌≤◌, Some}
use Rattle.serde_json.specs.Data.{Data, depth}
use Rattle.serde_json.specs.Written.{compact_text}
use Rattle.grid_value.specs.Bytes.{reading}
use Rattle.grid_told.specs.Trees.{HasWholes, HasTexts, NamesDiffer, by_name}

-- its numbers are whole, its texts are UTF-8, the names in each object differ, and it nests no deeper than so much
pub record IsReadable (deepest : ℕ) (d : Data) : Type 0 where
  pub wholes : HasWholes d
  pub texts : HasTexts d
  pub names : NamesDiffer d
  pub within : depth d ≤ deepest

-- it nests at most 6 deep, and the reading of jobs reads its text as the value with the same members
abbrev pub IsReadBack : Data → Type 0
IsReadBack d = IsReadable 6 d × (reading (compact_text d) ≡ Some (by_name d))
