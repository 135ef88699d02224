use Rattle.std.proofs.Common.{◌≡◌, ◌-◌}
use Rattle.grid_make.specs.Draws.{next, later, in_turn}
use Rattle.grid_make.specs.MadeNetwork.{feeder_edits, unrefused}
use Rattle.grid_make.proofs.network.add_feeders.Given as goal

-- the feeders that are left lead to what all lead to
abbrev pub invariant-loop-number : goal.invariant-loop-number
invariant-loop-number l =
    (unrefused (in_turn (feeder_edits l.level) next l.number (4 - l.number) l.draws) l.structure ≡ unrefused (in_turn (feeder_edits l.level) next 0 4 l.fn.draws) l.fn.structure)
    × (l.draws ≡ later l.number l.fn.draws)
