use Rattle.std.proofs.Common.{◌≡◌, take}
use Rattle.std.specs.Prelude.{IsTrue}
use Rattle.grid_board.proofs.comparing.same_flags.Given as goal

-- whether the first flags are equal
abbrev pub invariant-loop-place : goal.invariant-loop-place
invariant-loop-place l = record {
  forth : IsTrue l.same → take l.place l.flags ≡ take l.place l.others;
  back : l.flags ≡ l.others → IsTrue l.same;
}
