use Rattle.std.proofs.Common.{◌≡◌, take}
use Rattle.std.specs.List.{sum_by}
use Rattle.grid_structure.specs.Blocks.{count_of}
use Rattle.grid_structure.proofs.heads.total_own.Given as goal

abbrev pub invariant-loop-place : goal.invariant-loop-place
invariant-loop-place l = l.total ≡ sum_by (count_of l.own) (take l.place l.heads)
