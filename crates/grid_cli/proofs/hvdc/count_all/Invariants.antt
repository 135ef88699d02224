use Rattle.std.proofs.Common.{◌≡◌, take}
use Rattle.std.specs.Prelude.{sum_by}
use Rattle.grid_core.specs.History.{live}
use Rattle.grid_cli.specs.Hvdc.{named_count}
use Rattle.grid_cli.proofs.hvdc.count_all.Given as goal

-- the buses so far
abbrev pub invariant-loop-place : goal.invariant-loop-place
invariant-loop-place l = l.count ≡ sum_by (named_count l.world) (take l.place (live l.world.steps))
