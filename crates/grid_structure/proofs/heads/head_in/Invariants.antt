use Rattle.grid_structure.specs.Blocks.{count_of}
use Rattle.grid_structure.proofs.Blocks.{rest_of}
use Rattle.grid_structure.proofs.heads.head_in.Given as goal

abbrev pub invariant-loop-at : goal.invariant-loop-at
invariant-loop-at l = rest_of (count_of l.own) l.heads l.fn.place l.at l.rest
