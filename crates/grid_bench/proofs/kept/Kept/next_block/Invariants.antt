use Rattle.std.proofs.Common.{◌≡◌, ◌≤◌, ◌-◌, length}
use Rattle.grid_bench.specs.Contents.{content}
use Rattle.grid_bench.specs.Costs.{count_before}
use Rattle.grid_bench.proofs.kept.Kept.next_block.Given as goal

-- none of the places between differs
abbrev pub invariant-loop-start : goal.invariant-loop-start
invariant-loop-start l =
    let new = content l.self.level l.opened l.retained in
    record { on : l.from ≤ l.start; within : l.start ≤ length l.opened; none : count_before l.self new l.from ≡ count_before l.self new l.start }

abbrev pub decreases-loop-start : goal.decreases-loop-start
decreases-loop-start l = length l.opened - l.start
