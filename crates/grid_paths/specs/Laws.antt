-- What holds of the measure of paths, whatever the places cost.
use Rattle.std.specs.Prelude.{◌≡◌, ℕ, Bool, List}
use Rattle.std.specs.declared.cmp.Ordering.TheVariants.{Equal}
use Rattle.grid_paths.specs.Paths.{measure_cmp}

abbrev pub EqualMeasureIsEqualPath : Type 0
EqualMeasureIsEqualPath = (costs : ℕ → Bool) (p q : List ℕ) → measure_cmp costs p q ≡ Equal → p ≡ q
