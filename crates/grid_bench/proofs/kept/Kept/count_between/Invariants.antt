use Rattle.std.proofs.Common.{◌≡◌, ◌≤◌, ◌+◌}
use Rattle.grid_bench.specs.Contents.{content}
use Rattle.grid_bench.specs.Costs.{count_before}
use Rattle.grid_bench.proofs.kept.Kept.count_between.Given as goal

-- so many of the places between differ
abbrev pub invariant-loop-place : goal.invariant-loop-place
invariant-loop-place l =
    let new = content l.self.level l.opened l.retained in
    record { counted : count_before l.self new l.start + l.count ≡ count_before l.self new l.place; few : l.start + l.count ≤ l.place }
