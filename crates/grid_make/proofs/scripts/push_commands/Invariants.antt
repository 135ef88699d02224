use Rattle.std.proofs.Common.{◌≡◌, ◌-◌, ◌++◌}
use Rattle.grid_make.specs.Draws.{next, later, in_turn}
use Rattle.grid_make.specs.MadeJob.{next_command}
use Rattle.grid_make.proofs.scripts.push_commands.Given as goal

-- the commands that are left make up what all make up
abbrev pub invariant-loop : goal.invariant-loop
invariant-loop l =
    (l.script ++ in_turn (next_command l.size) next l.counter (l.end - l.counter) l.draws ≡ l.fn.script ++ in_turn (next_command l.size) next 0 l.end l.fn.draws)
    × (l.draws ≡ later l.counter l.fn.draws)
