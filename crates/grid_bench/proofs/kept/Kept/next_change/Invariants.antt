use Rattle.std.proofs.Common.{◌≡◌}
use Rattle.grid_bench.specs.Contents.{content}
use Rattle.grid_bench.specs.Costs.{count_before}
use Rattle.grid_bench.proofs.kept.Kept.next_change.Given as goal

-- none of the places between differs
abbrev pub invariant-loop-place : goal.invariant-loop-place
invariant-loop-place l = let new = content l.self.level l.opened l.retained in count_before l.self new l.from ≡ count_before l.self new l.place
