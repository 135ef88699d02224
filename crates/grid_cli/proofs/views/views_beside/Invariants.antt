use Rattle.std.proofs.Common.{◌≡◌, ◌≤◌, length}
use Rattle.std.specs.List.{filter_map, range_with_len}
use Rattle.grid_structure.specs.Sites.{levels}
use Rattle.grid_core.specs.History.{structure}
use Rattle.grid_core.specs.Replies.{view}
use Rattle.grid_cli.proofs.views.views_beside.Given as goal

-- the views so far
abbrev pub invariant-loop-level : goal.invariant-loop-level
invariant-loop-level l = record {
  within : l.level ≤ length (levels (structure l.world.origin l.world.steps));
  views : l.views ≡ filter_map (view l.world.origin l.world.steps l.name) (range_with_len 0 l.level);
  count : length l.views ≡ l.level;
}
