-- A level as it stands in a state.
use Rattle.std.proofs.Common.{◌≡◌, refl, subst, ℕ, Option, Some, None}
use Rattle.std.specs.Prelude.{slice_get, option_map}
use Rattle.std.proofs.lemmas.List.{length-map}
use Rattle.grid_lemmas.proofs.Options.{some_is}
use Rattle.grid_level.specs.VoltageLevel.{VoltageLevel}
use Rattle.grid_structure.specs.Sites.{levels}
use Rattle.grid_watts.specs.Watts.{level_watts}
use Rattle.grid_bench.specs.declared.base.BaseLevel.{BaseLevel}
use Rattle.grid_bench.specs.Bases.{LevelFits}
use Rattle.grid_core.specs.Solo.{State, level_at}
use Rattle.grid_core.specs.Fitting.{StateFits}
use Rattle.grid_core.proofs.VariantViews.{fits_at}
use Rattle.grid_board.specs.Questions.{part_with, part_of, base_of}

-- the level of a base
pub level_of_base : (state : State) (place : ℕ) (base : BaseLevel) → base_of state place ≡ Some base → (level : VoltageLevel) × ((slice_get (levels state.structure) place ≡ Some level) × (part_of state place level ≡ base))
unfolding base_of level_at
level_of_base state place base h = by (slice_get (levels state.structure) place) refl h
  where
    by : (o : Option VoltageLevel) → slice_get (levels state.structure) place ≡ o → option_map (part_of state place) o ≡ Some base → (level : VoltageLevel) × ((slice_get (levels state.structure) place ≡ Some level) × (part_of state place level ≡ base))
    by (Some level) there h = (level, (there, some_is (part_of state place level) base h))
    by None there h = cc

part_fits : (state : State) → StateFits state → (place : ℕ) (level : VoltageLevel) → slice_get (levels state.structure) place ≡ Some level → LevelFits (part_of state place level)
unfolding part_of part_with level_watts
part_fits state fits place level there = record {
  states = (fits_at state.structure state.opened place level fits.opened there).1;
  retained = (fits_at state.structure state.retained place level fits.retained there).1;
  powers = length-map level.placed _;
}

-- one flag per switch, and one number of watts per placed terminal
pub base_fits : (state : State) (place : ℕ) (base : BaseLevel) → StateFits state → base_of state place ≡ Some base → LevelFits base
base_fits state place base fits h = let of = level_of_base state place base h in subst LevelFits of.1.1 (part_fits state fits place of.0 of.1.0)
