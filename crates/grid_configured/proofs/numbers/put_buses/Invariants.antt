use Rattle.std.proofs.Common.{◌≡◌, ℕ, List, take}
use Rattle.grid_configured.specs.Numbers.{bus_numbers, number_at, numbered}
use Rattle.grid_configured.proofs.numbers.put_buses.Given as goal

abbrev pub invariant-loop-place : goal.invariant-loop-place
invariant-loop-place l = (q : List ℕ) → number_at l.numbers q ≡ numbered (bus_numbers (take l.place l.buses)) (number_at l.initial.numbers q) q
