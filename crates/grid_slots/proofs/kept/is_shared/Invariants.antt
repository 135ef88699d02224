use Rattle.std.proofs.Common.{◌≢◌, ℕ, ◌<◌}
use Rattle.grid_slots.specs.Kept.{number_at}
use Rattle.grid_slots.proofs.kept.is_shared.Given as goal

abbrev pub invariant-loop-other : goal.invariant-loop-other
invariant-loop-other l = (i : ℕ) → i < l.other → i ≢ l.place → number_at l.numbers i ≢ l.number
