use Rattle.std.proofs.Common.{◌≡◌, map, take}
use Rattle.grid_core.specs.History.{live}
use Rattle.grid_configured.specs.Reports.{variant_view}
use Rattle.grid_configured.proofs.replay.view_variants.Given as goal

-- the variants so far
abbrev pub invariant-loop-place : goal.invariant-loop-place
invariant-loop-place l = l.views ≡ map (variant_view l.world.network l.world.steps) (take l.place (live l.world.steps))
