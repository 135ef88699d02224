use Rattle.std.proofs.Common.{◌≤◌, ◌-◌}
use Rattle.grid_structure.proofs.taking.place_of_number.Given as goal

-- what is left of the part
abbrev pub invariant-loop-low : goal.invariant-loop-low
invariant-loop-low l = (l.low ≤ l.high) × (l.high ≤ l.fn.to)

abbrev pub decreases-loop-low : goal.decreases-loop-low
decreases-loop-low l = l.high - l.low
