use Rattle.std.proofs.Common.{◌≡◌, ◌≤◌, length}
use Rattle.std.specs.List.{filter_map, range_with_len}
use Rattle.grid_configured.specs.Histories.{view}
use Rattle.grid_configured.proofs.replay.level_views.Given as goal

-- the views so far
abbrev pub invariant-loop-level : goal.invariant-loop-level
invariant-loop-level l = record {
  within : l.level ≤ length l.world.network.levels;
  views : l.views ≡ filter_map (view l.world.network l.world.steps l.name) (range_with_len 0 l.level);
}
