use Rattle.std.proofs.Common.{◌≡◌, map, take, length}
use Rattle.std.specs.Prelude.{zip}
use Rattle.grid_hvdc.specs.Numbers.{side_by_side}
use Rattle.grid_hvdc.proofs.numbers.pair_up.Given as goal

abbrev pub invariant-loop-over_all : goal.invariant-loop-over_all
invariant-loop-over_all l = l.list ≡ map side_by_side (take (length l.yielded) (zip l.connected l.synchronous))
