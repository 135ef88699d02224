use Rattle.std.proofs.Common.{◌≡◌, ◌-◌, ◌*◌}
use Rattle.grid_make.specs.Draws.{later, in_turn}
use Rattle.grid_make.specs.MadeNetwork.{level_edits, unrefused}
use Rattle.grid_make.proofs.network.add_levels.Given as goal

-- the levels that are left lead to what all lead to
abbrev pub invariant-loop-level : goal.invariant-loop-level
invariant-loop-level l =
    (unrefused (in_turn (level_edits l.size) (later 5) l.level (l.size - l.level) l.draws) l.structure ≡ unrefused (in_turn (level_edits l.size) (later 5) 0 l.size l.fn.draws) l.fn.structure)
    × (l.draws ≡ later (5 * l.level) l.fn.draws)
