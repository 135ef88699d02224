use Rattle.std.proofs.Common.{◌≡◌, ◌≤◌, ◌+◌, ℕ, length, get_or}
use Rattle.grid_figures.specs.Networks.{IsNext, has_kept}
use Rattle.grid_figures.proofs.network.list_nexts.Given as goal

abbrev pub invariant-loop-level : goal.invariant-loop-level
invariant-loop-level l = record {
  low : l.level ≤ length l.kept;
  long : length l.nexts.items ≡ length l.kept + 1;
  each : (k : ℕ) → l.level ≤ k → k ≤ length l.kept → IsNext (has_kept l.kept) (length l.kept) k (get_or l.nexts.items k 0);
}

abbrev pub decreases-loop-level : goal.decreases-loop-level
decreases-loop-level l = l.level
