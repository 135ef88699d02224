use Rattle.std.proofs.Common.{◌≡◌, ℕ, [], length}
use Rattle.std.specs.List.{slice_index_or}
use Rattle.grid_outages.proofs.table.empty_rows.Given as goal

abbrev pub invariant-loop-level : goal.invariant-loop-level
invariant-loop-level l = (length l.rows.items ≡ l._level) × ((k : ℕ) → slice_index_or l.rows.items k [] ≡ [])
