-- What a board keeps beside its world.
use Rattle.std.specs.Prelude.{◌≡◌, ℕ}
use Rattle.grid_core.specs.History.{History}
use Rattle.grid_board.specs.Edits.{edits_asked}

-- the count of edits
abbrev pub IsBoard : History → ℕ → Type 0
IsBoard world edits = edits ≡ edits_asked world.steps
