use Rattle.std.proofs.Common.{◌≡◌, ℕ, List, take}
use Rattle.grid_configured.specs.Numbers.{level_numbers, number_at, numbered}
use Rattle.grid_configured.proofs.numbers.put_levels.Given as goal

abbrev pub invariant-loop-place : goal.invariant-loop-place
invariant-loop-place l = (q : List ℕ) → number_at l.numbers q ≡ numbered (level_numbers 0 (take l.place l.levels)) (number_at l.initial.numbers q) q
