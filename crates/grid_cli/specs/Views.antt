-- What a history shows in its live variants.
use Rattle.std.specs.Prelude.{◌≡◌, ℕ, Bool, List, IsTrue}
use Rattle.grid_level.specs.VoltageLevel.{VoltageLevel}
use Rattle.grid_states.specs.Rows.{Rows, row_at}
use Rattle.grid_powers.specs.Listed.{Listed}
use Rattle.grid_watts.specs.Watts.{level_watts}
use Rattle.grid_core.specs.Fitting.{StateFits}
use Rattle.grid_core.specs.History.{History, is_live}
use Rattle.grid_core.specs.Replies.{state_of}
use Rattle.grid_core.specs.Solo.{state_rows}
use Rattle.grid_report.specs.declared.outcome.VariantView.{VariantView}
use Rattle.grid_report.specs.Histories.{variant_view}
use Rattle.grid_cli.specs.declared.views.Beside.{Beside}

-- a live variant with the view of each level in it
pub record IsShown (history : History) (shown : VariantView) : Type 0 where
  pub live : IsTrue (is_live history.steps shown.name)
  pub views : shown ≡ variant_view history.origin history.steps shown.name

-- what a live variant has of each level
pub record IsStanding (history : History) (name : List ℕ) (rows : Rows) : Type 0 where
  pub live : IsTrue (is_live history.steps name)
  pub rows_are : rows ≡ state_rows (state_of history.origin history.steps name)
  pub fits : StateFits (state_of history.origin history.steps name)

-- two live variants of a world, of which the views of one are shown
pub record IsBeside (both : Beside) : Type 0 where
  pub own : IsStanding both.world.now both.name.now both.own.now
  pub other : IsStanding both.world.now both.earlier.now.name both.other.now
  pub shown : IsShown both.world.now both.earlier.now

-- the level at a place has the same positions and watts in two variants
pub record IsAlike (opened : List (List Bool)) (listed : Listed) (others : List (List Bool)) (other_listed : Listed) (place : ℕ) (level : VoltageLevel) : Type 0 where
  pub positions : row_at opened place ≡ row_at others place
  pub watts : level_watts listed level ≡ level_watts other_listed level
