-- The item at a place of a list.
use Rattle.std.proofs.Common.{◌≡◌, refl, ℕ, zero, suc, ◌<◌, List, [], ◌∷◌, length, get_or, arith, Some}
use Rattle.std.specs.Prelude.{slice_get}

pub got_or : {X : Type 0} (xs : List X) (k : ℕ) (d : X) → k < length xs → slice_get xs k ≡ Some (get_or xs k d)
got_or [] k d lt = absurd (omega arith)
got_or (x ∷ xs) zero d lt = refl
got_or (x ∷ xs) (suc k) d lt = got_or xs k d (omega arith)
