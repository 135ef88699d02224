use Rattle.std.proofs.Common.{◌≡◌, ℕ, ◌<◌, ◌≤◌, cond, length, get_or, false}
use Rattle.grid_islands.specs.Rejoining.{is_marked}
use Rattle.grid_islands.proofs.rejoining.set_apart.Given as goal

abbrev pub invariant-loop-bus : goal.invariant-loop-bus
invariant-loop-bus l = record {
  long : length l.labels.items ≡ length l.fn.labels.items;
  marks_long : length l.marks.items ≡ length l.fn.labels.items;
  apart : (x : ℕ) → x < l.bus → get_or l.labels.items x 0 ≡ cond (is_marked l.fn.labels.items l.fn.marks.items x) x (get_or l.fn.labels.items x 0);
  marked : (x : ℕ) → x < l.bus → get_or l.marks.items x false ≡ is_marked l.fn.labels.items l.fn.marks.items x;
  left : (x : ℕ) → l.bus ≤ x → get_or l.labels.items x 0 ≡ get_or l.fn.labels.items x 0;
  unmarked : (x : ℕ) → l.bus ≤ x → get_or l.marks.items x false ≡ get_or l.fn.marks.items x false;
}
