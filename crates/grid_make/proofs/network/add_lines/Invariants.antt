use Rattle.std.proofs.Common.{◌≡◌, ◌-◌}
use Rattle.grid_make.specs.Draws.{same, in_turn}
use Rattle.grid_make.specs.MadeNetwork.{line_edits, unrefused}
use Rattle.grid_make.proofs.network.add_lines.Given as goal

-- the lines that are left lead to what all lead to
abbrev pub invariant-loop-level : goal.invariant-loop-level
invariant-loop-level l = unrefused (in_turn line_edits same l.level (l.count - l.level) 0) l.structure ≡ unrefused (in_turn line_edits same 0 l.count 0) l.fn.structure
