-- The views and the plans of a level in node/breaker form, by its configured buses: of every level whose places fit,
-- for all positions of its switches and breakers and all watts.
use Rattle.std.specs.Prelude.{◌≡◌, ℕ, ℤ, ◌+◌, Bool, if◌then◌else◌, Some, List, [], ◌∷◌, length, map, slice_get}
use Rattle.grid_level.specs.VoltageLevel.{VoltageLevel}
use Rattle.grid_level.specs.Passing as levels
use Rattle.grid_busview.specs.Views.{record_watts, bus_view_of}
use Rattle.grid_busbreaker.specs.Views.{bus_breaker_view_of}
use Rattle.grid_connect.specs.declared.ConnectPlan.TheVariants.{Close, AlreadyConnected}
use Rattle.grid_connect.specs.declared.DisconnectPlan.TheVariants.{Opens, AlreadyDisconnected, NoBreaker}
use Rattle.grid_connect.specs.Plans.{connect_plan_of, disconnect_plan_of}
use Rattle.grid_placed.specs.Places.{Outlet, PlacedLevel, PlacesFit, positioned}
use Rattle.grid_placed.specs.Translation.{bus_terminal, translated_level}
use Rattle.grid_placed.specs.Views.{outlet_part, outlet_records, group_view}
use Rattle.grid_placed.specs.Apart.{apart_view}

-- the buses of the bus view are, in order, those of the configured view, whatever switches are retained
abbrev pub BusViewsCorrespond : Type 0
BusViewsCorrespond = (level : PlacedLevel) → PlacesFit level → (opened retained : List Bool) (watts : List ℤ)
    → bus_view_of (levels.stood (translated_level level) opened retained) watts ≡ group_view (positioned level opened) (outlet_part level watts)

-- the watts that the records give in node/breaker form are those of the terminals' records
abbrev pub RecordsCorrespond : Type 0
RecordsCorrespond = (level : PlacedLevel) → outlet_part level (record_watts (translated_level level)) ≡ outlet_records level

-- the flags retained of a level's records
abbrev pub records_retained : VoltageLevel → List Bool
records_retained level = map (λ s. s.retained) level.switches

-- the bus/breaker view where the flags retained are those of the records
abbrev pub BusBreakerViewsCorrespond : Type 0
BusBreakerViewsCorrespond = (level : PlacedLevel) → PlacesFit level → (opened : List Bool)
    → bus_breaker_view_of (levels.stood (translated_level level) opened (records_retained (translated_level level))) ≡ apart_view (positioned level opened)

-- where a level stands so in node/breaker form, each terminal is connected and disconnected by just its own breaker,
-- and no breaker stands before a configured bus
pub record HasOwnPlans (level : PlacedLevel) (stands : VoltageLevel) : Type 0 where
  pub connects : (k : ℕ) (t : Outlet) → slice_get level.outlets k ≡ Some t
      → connect_plan_of stands (length level.buses + k) ≡ (if t.connected then AlreadyConnected else Close ((length level.joints + k) ∷ []))
  pub disconnects : (k : ℕ) (t : Outlet) → slice_get level.outlets k ≡ Some t
      → disconnect_plan_of stands (length level.buses + k) ≡ (if t.connected then Opens ((length level.joints + k) ∷ []) else AlreadyDisconnected)
  pub bus_connects : (place : ℕ) (id : List ℕ) → slice_get level.buses place ≡ Some id → connect_plan_of stands place ≡ AlreadyConnected
  pub bus_disconnects : (place : ℕ) (id : List ℕ) → slice_get level.buses place ≡ Some id → disconnect_plan_of stands place ≡ NoBreaker (bus_terminal id)

abbrev pub PlansAreOwnBreakers : Type 0
PlansAreOwnBreakers = (level : PlacedLevel) → PlacesFit level → (opened : List Bool)
    → HasOwnPlans (positioned level opened) (levels.positioned (translated_level level) opened)
