use Rattle.std.proofs.Common.{◌≡◌, ◌<◌, ◌^◌, length, map, take, All}
use Rattle.grid_core.specs.History.{live}
use Rattle.grid_report.specs.Histories.{variant_view}
use Rattle.grid_cli.proofs.views.variant_views.Given as goal

-- the variants so far
abbrev pub invariant-loop-place : goal.invariant-loop-place
invariant-loop-place l = record {
  views : l.views ≡ map (variant_view l.world.origin l.world.steps) (take l.place (live l.world.steps));
  count : length l.views ≡ l.place;
  each : All (λ v. length v.views < 2 ^ 32) l.views;
}
