-- States that are lent to be changed in place. Once such a loan ends, the place has what was left there, and where memory
-- runs out all is as before.
use Rattle.std.specs.Prelude.{ℕ, List, slice_set, Result}
use Rattle.std.specs.Borrow.{LendsIfOk, MutBor, Fml}
use Rattle.grid_states.specs.Rows.{Rows}
use Rattle.grid_states.specs.contracts.states.States as states
use Rattle.grid_slots.specs.contracts.kept.Kept as kept

module _ (s : MutBor (List Rows)) (place : ℕ) {E : Type 0} (r : Result (MutBor Rows) E) where
  abbrev pub kept_lends : Fml
  kept_lends = LendsIfOk kept.the_row states.the_row s r (slice_set s.now place) s.now
