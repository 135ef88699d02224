use Rattle.std.proofs.Common.{◌≡◌, take, length}
use Rattle.std.specs.Prelude.{sum_by}
use Rattle.grid_cli.proofs.counts.count_commands.Given as goal

-- the commands so far
abbrev pub invariant-loop-script : goal.invariant-loop-script
invariant-loop-script l = l.total ≡ sum_by length (take l.script-index l.scripts)
