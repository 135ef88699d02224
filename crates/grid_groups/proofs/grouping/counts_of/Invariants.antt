use Rattle.std.proofs.Common.{◌≡◌, ℕ, ◌<◌, length, get_or}
use Rattle.grid_groups.proofs.GroupMembers.{with_key}
use Rattle.grid_groups.proofs.grouping.counts_of.Given as goal

abbrev pub invariant-loop-key : goal.invariant-loop-key
invariant-loop-key l = record {
  long : length l.counts.items ≡ l.count;
  each : (key : ℕ) → key < l.count → get_or l.counts.items key 0 ≡ length (with_key l.keys l.key-index key);
}
