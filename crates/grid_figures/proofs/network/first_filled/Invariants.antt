use Rattle.std.proofs.Common.{◌≡◌, ◌<◌, ℕ, length}
use Rattle.grid_figures.specs.Layouts.{part_at}
use Rattle.grid_figures.proofs.network.first_filled.Given as goal

abbrev pub invariant-loop-changed : goal.invariant-loop-changed
invariant-loop-changed l = (k : ℕ) → k < l.changed-index → length (part_at l.levels k).sums ≡ 0
