use Rattle.std.proofs.Common.{◌≡◌, take}
use Rattle.grid_bench.proofs.ends.same_pairs.Given as goal

-- whether the first nodes are equal
abbrev pub invariant-loop-place : goal.invariant-loop-place
invariant-loop-place l = record {
  forth : l.differences ≡ 0 → take l.place l.list ≡ take l.place l.others;
  back : l.list ≡ l.others → l.differences ≡ 0;
}
