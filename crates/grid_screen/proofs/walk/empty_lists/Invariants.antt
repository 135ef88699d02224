use Rattle.std.proofs.Common.{◌≡◌, ℕ, [], length}
use Rattle.std.specs.List.{slice_index_or}
use Rattle.grid_screen.proofs.walk.empty_lists.Given as goal

abbrev pub invariant-loop-label : goal.invariant-loop-label
invariant-loop-label l = (length l.lists.items ≡ l._label) × ((k : ℕ) → slice_index_or l.lists.items k [] ≡ [])
