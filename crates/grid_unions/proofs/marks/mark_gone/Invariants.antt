use Rattle.std.proofs.Common.{◌≡◌, ℕ, if◌then◌else◌, length, take}
use Rattle.grid_unions.specs.Halves.{is_marked, is_gone}
use Rattle.grid_unions.proofs.marks.mark_gone.Given as goal

abbrev pub invariant-loop-change : goal.invariant-loop-change
invariant-loop-change l = record {
  long : length l.marks ≡ length l.fn.marks;
  marked : (x : ℕ) → is_marked l.marks x ≡ (if is_gone (take l.change-index l.changes) x then l.mark else is_marked l.fn.marks x);
}
