-- The first voltage that is not positive, as a search finds it.
use Rattle.std.proofs.Common.{◌≡◌, refl, ℤ, pos, Bool, true, false, cond, List, [], ◌∷◌, Some}
use Rattle.std.specs.Prelude.{int_le, find}
use Rattle.std.specs.Option.{option_map}
use Rattle.grid_kinds.specs.declared.CheckFault.TheVariants.{RatedNotPositive}
use Rattle.grid_kinds.specs.Records.{rated_fault}

pub rated_by_find : (rated : List ℤ) → rated_fault rated ≡ option_map (λ volts. RatedNotPositive volts (pos 0)) (find (λ volts. int_le volts (pos 0)) rated)
unfolding rated_fault
rated_by_find [] = refl
rated_by_find (volts ∷ rest) = by (int_le volts (pos 0)) (rated_by_find rest)
  where
    by : (t : Bool) → rated_fault rest ≡ option_map (λ v. RatedNotPositive v (pos 0)) (find (λ v. int_le v (pos 0)) rest)
        → cond t (Some (RatedNotPositive volts (pos 0))) (rated_fault rest) ≡ option_map (λ v. RatedNotPositive v (pos 0)) (cond t (Some volts) (find (λ v. int_le v (pos 0)) rest))
    by true again = refl
    by false again = again
