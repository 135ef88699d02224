use Rattle.std.proofs.Common.{◌≡◌, ℕ, [], length}
use Rattle.std.specs.List.{slice_index_or}
use Rattle.grid_outages.proofs.LevelPlaces.{places_to}
use Rattle.grid_outages.proofs.table.places_by_level.Given as goal

abbrev pub invariant-loop-place : goal.invariant-loop-place
invariant-loop-place l = record {
  long : length l.rows.items ≡ l.count;
  each : (level : ℕ) → slice_index_or l.rows.items level [] ≡ places_to l.ends level l.place;
}
