use Rattle.std.proofs.Common.{◌≡◌, take}
use Rattle.std.specs.Prelude.{IsTrue}
use Rattle.grid_level.specs.Passing.{nodes}
use Rattle.grid_bench.proofs.ends.same_nodes.Given as goal

-- whether the first nodes are equal
abbrev pub invariant-loop-index : goal.invariant-loop-index
invariant-loop-index l = record {
  forth : IsTrue l.same → take l.index (nodes l.level) ≡ take l.index (nodes l.other);
  back : nodes l.level ≡ nodes l.other → IsTrue l.same;
}
