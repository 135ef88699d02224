use Rattle.std.proofs.Common.{◌≡◌, ℕ, if◌then◌else◌, length, take}
use Rattle.grid_unions.specs.Halves.{is_marked}
use Rattle.grid_unions.specs.Sweep.{is_among}
use Rattle.grid_unions.proofs.marks.mark_places.Given as goal

abbrev pub invariant-loop-place : goal.invariant-loop-place
invariant-loop-place l = record {
  long : length l.marks ≡ length l.fn.marks;
  marked : (x : ℕ) → is_marked l.marks x ≡ (if is_among (take l.place-index l.places) x then l.mark else is_marked l.fn.marks x);
}
