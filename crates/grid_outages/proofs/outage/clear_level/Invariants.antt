use Rattle.std.proofs.Common.{◌≡◌, length}
use Rattle.grid_level.specs.LevelEdits.{level_without_equipment}
use Rattle.grid_outages.proofs.outage.clear_level.Given as goal

abbrev pub invariant-loop-node : goal.invariant-loop-node
invariant-loop-node l = level_without_equipment l.id l.level ≡ level_without_equipment l.fn.id l.fn.level

abbrev pub decreases-loop-node : goal.decreases-loop-node
decreases-loop-node l = length l.level.placed
