-- Pieces of ids.
use Rattle.std.specs.Prelude.{ℕ, Bool, not, ◌&&◌, nat_le, List, length}
use Rattle.std.specs.List.{list_all}
use Rattle.grid_ids.specs.Fault.{is_control}

abbrev pub is_visible : ℕ → Bool
is_visible byte = not (is_control byte)

-- at most so many bytes, and none of them a control character
abbrev pub is_piece : ℕ → List ℕ → Bool
is_piece most text = nat_le (length text) most && list_all is_visible text
