use Rattle.std.proofs.Common.{◌≡◌, take}
use Rattle.grid_unions.specs.Halves.{with_joined}
use Rattle.grid_unions.proofs.sweeps.join_all.Given as goal

abbrev pub invariant-loop-a : goal.invariant-loop-a
invariant-loop-a l = l.summed ≡ with_joined l.fn.summed (take l.a-index l.pairs)
