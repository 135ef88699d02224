use Rattle.std.proofs.Common.{◌≡◌, ℕ, ◌<◌, true, length}
use Rattle.std.specs.Prelude.{flat_map, slice_index}
use Rattle.grid_graph.specs.Graph.{EndsBelow}
use Rattle.grid_islands.specs.Rejoining.{is_marked}
use Rattle.grid_islands.specs.Spots.{pairs_of_buses}
use Rattle.grid_islands.proofs.FollowedEnds.{AreMarkedFrom}
use Rattle.grid_islands.proofs.LevelChains.{count_to, IsInLevel}
use Rattle.grid_islands.proofs.following.mark_level.Given as goal

abbrev pub invariant-loop-at : goal.invariant-loop-at
invariant-loop-at l = record {
  in_level : IsInLevel l.index.ends l.level l.at;
  long : length l.marks.items ≡ length l.initial.marks.items;
  kept : (x : ℕ) → is_marked l.labels l.initial.marks.items x ≡ true → is_marked l.labels l.marks.items x ≡ true;
  done : EndsBelow (flat_map pairs_of_buses l.ends) (length l.labels) → ((x : ℕ) → x < length l.labels → slice_index l.labels x < length l.initial.marks.items)
      → AreMarkedFrom l.index.ends l.level (count_to l.at) (is_marked l.labels l.marks.items) l.ends;
}

abbrev pub decreases-loop-at : goal.decreases-loop-at
decreases-loop-at l = count_to l.at
