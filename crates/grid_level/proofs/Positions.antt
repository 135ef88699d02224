-- A level's switches at other positions.
use Rattle.std.proofs.Common.{Bool, List, [], ap, length, refl, suc, ◌∷◌, ◌≡◌}
use Rattle.grid_level.specs.Passing.{with_opened}
use Rattle.grid_level.specs.declared.Switch.{Switch}

pub length_opened : (sw : List Switch) (flags : List Bool) → length (with_opened sw flags) ≡ length sw
unfolding with_opened
length_opened [] flags = refl
length_opened (s ∷ sw) [] = refl
length_opened (s ∷ sw) (f ∷ flags) = ap suc (length_opened sw flags)
