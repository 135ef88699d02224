use Rattle.std.proofs.Common.{◌≡◌, List, length, map}
use Rattle.grid_islands.specs.declared.kept.KeptLevel.{KeptLevel}
use Rattle.grid_islands.specs.Spots.{buses_of_spots}
use Rattle.grid_islands.proofs.FollowedEnds.{AreEither, AreMadeFrom}
use Rattle.grid_islands.proofs.LevelChains.{count_to, IsInLevel}
use Rattle.grid_islands.proofs.following.follow_level.Given as goal

abbrev pub invariant-loop-at : goal.invariant-loop-at
invariant-loop-at l = record {
  in_level : IsInLevel l.spots.index.ends l.level l.at;
  long : length l.ends ≡ length l.spots.branches;
  either : (before : List KeptLevel) → l.initial.ends ≡ map (buses_of_spots l.firsts before) l.spots.branches → AreEither (buses_of_spots l.firsts l.kept) (buses_of_spots l.firsts before) l.spots.branches l.ends;
  done : AreMadeFrom (buses_of_spots l.firsts l.kept) l.spots.index.ends l.level (count_to l.at) l.spots.branches l.ends;
}

abbrev pub decreases-loop-at : goal.decreases-loop-at
decreases-loop-at l = count_to l.at
