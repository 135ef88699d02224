-- The two sums of a variant, and by what they change.
use Rattle.std.specs.Prelude.{◌≡◌, ◌^◌, ℤ, pos, neg_ℤ, ◌+ℤ◌, ◌≤ℤ◌}
use Rattle.grid_states.specs.declared.sums.Shift.{Shift}
use Rattle.grid_states.specs.declared.sums.Sum.{Sum}
use Rattle.grid_states.specs.declared.sums.Sum.TheVariants.{Load, Generation}

abbrev pub shift_by : ℤ → ℤ → Shift
shift_by load generation = record { load = load; generation = generation }

-- what some watts add to the sum that they are part of
abbrev pub added : Sum → ℤ → Shift
added Load watts = shift_by watts (pos 0)
added Generation watts = shift_by (pos 0) watts

-- what they take from it
abbrev pub taken : Sum → ℤ → Shift
taken Load watts = shift_by (neg_ℤ watts) (pos 0)
taken Generation watts = shift_by (pos 0) (neg_ℤ watts)

-- by no more than 2 to the 100
pub record IsSmall (shift : Shift) : Type 0 where
  pub load_low : neg_ℤ (pos (2 ^ 100)) ≤ℤ shift.load
  pub load_high : shift.load ≤ℤ pos (2 ^ 100)
  pub generation_low : neg_ℤ (pos (2 ^ 100)) ≤ℤ shift.generation
  pub generation_high : shift.generation ≤ℤ pos (2 ^ 100)
