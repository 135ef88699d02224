use Rattle.std.proofs.Common.{◌≡◌, ◌≤◌, ◌-◌, length}
use Rattle.grid_bench.specs.Contents.{content}
use Rattle.grid_bench.specs.Costs.{count_before}
use Rattle.grid_bench.proofs.kept.Kept.count_changes.Given as goal

-- so many of the places before differ
abbrev pub invariant-loop-start : goal.invariant-loop-start
invariant-loop-start l = record { counted : l.count ≡ count_before l.self (content l.self.level l.opened l.retained) l.start; within : l.start ≤ length l.opened }

abbrev pub decreases-loop-start : goal.decreases-loop-start
decreases-loop-start l = length l.opened - l.start
