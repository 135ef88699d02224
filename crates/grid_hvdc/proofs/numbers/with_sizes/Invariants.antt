use Rattle.std.proofs.Common.{◌≡◌, map, take}
use Rattle.grid_hvdc.specs.Numbers.{sized}
use Rattle.grid_hvdc.proofs.numbers.with_sizes.Given as goal

abbrev pub invariant-loop-number : goal.invariant-loop-number
invariant-loop-number l = l.list ≡ map (sized l.sizes) (take l.number-index l.numbers)
