-- The plans as relations, over all lists of places.
use Rattle.std.specs.Prelude.{◌≡◌, ℕ, not, List, filter, IsTrue}
use Rattle.grid_level.specs.VoltageLevel.{VoltageLevel}
use Rattle.grid_level.specs.Passing.{is_connected}
use Rattle.grid_paths.specs.Paths.{is_better}
use Rattle.grid_connect.specs.declared.ConnectPlan.{ConnectPlan}
use Rattle.grid_connect.specs.declared.ConnectPlan.TheVariants.{Close, AlreadyConnected, NoPath}
use Rattle.grid_connect.specs.Plans.{is_open, is_closable, connect_plan_of}

-- no closable path from a is better than this one
pub record IsLeastClosable (level : VoltageLevel) (a : ℕ) (path : List ℕ) : Type 0 where
  pub closable : IsTrue (is_closable level a path)
  pub least : (other : List ℕ) → IsTrue (is_closable level a other) → IsTrue (not (is_better (is_open level) other path))

abbrev pub IsConnectPlan : VoltageLevel → ℕ → ConnectPlan → Type 0
IsConnectPlan level a AlreadyConnected = IsTrue (is_connected level a)
IsConnectPlan level a (Close places) =
    IsTrue (not (is_connected level a)) × ((path : List ℕ) × IsLeastClosable level a path × (places ≡ filter (is_open level) path))
IsConnectPlan level a NoPath =
    IsTrue (not (is_connected level a)) × ((path : List ℕ) → IsTrue (not (is_closable level a path)))

abbrev pub ConnectPlanIsLeast : Type 0
ConnectPlanIsLeast = (level : VoltageLevel) (a : ℕ) → IsConnectPlan level a (connect_plan_of level a)
