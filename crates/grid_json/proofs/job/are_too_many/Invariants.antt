use Rattle.std.proofs.Common.{◌≡◌, ◌+◌, take, length}
use Rattle.std.specs.Prelude.{sum_by}
use Rattle.grid_json.proofs.job.are_too_many.Given as goal

-- what is left of the limit
abbrev pub invariant-loop-script : goal.invariant-loop-script
invariant-loop-script l = l.left + sum_by length (take l.script-index l.scripts) ≡ 20000
