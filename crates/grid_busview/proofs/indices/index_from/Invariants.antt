use Rattle.std.proofs.Common.{◌≤◌, ◌-◌, length}
use Rattle.grid_level.specs.Passing.{nodes}
use Rattle.grid_groups.specs.Labels.{index_in}
use Rattle.grid_busview.proofs.indices.index_from.Given as goal

abbrev pub invariant-loop-index : goal.invariant-loop-index
invariant-loop-index l = l.index ≤ index_in (nodes l.level) l.node

abbrev pub decreases-loop-index : goal.decreases-loop-index
decreases-loop-index l = length (nodes l.level) - l.index
