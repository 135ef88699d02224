-- Each terminal is connected and disconnected by its own breaker, in any positions.
use Rattle.std.proofs.Common.{◌≡◌, sym, ap, ◌∙◌, subst, ℕ, ◌+◌, ◌<◌, Bool, true, false, List, [], ◌∷◌, length, get_or}
use Rattle.std.specs.Prelude.{Some, if◌then◌else◌, slice_get}
use Rattle.std.proofs.lemmas.Option.{slice_get_within, get_or_from_slice_get}
use Rattle.grid_level.specs.Passing as levels
use Rattle.grid_connect.specs.Plans.{connect_plan_of, disconnect_plan_of}
use Rattle.grid_connect.specs.declared.ConnectPlan.TheVariants.{Close, AlreadyConnected}
use Rattle.grid_connect.specs.declared.DisconnectPlan.TheVariants.{Opens, AlreadyDisconnected, NoBreaker}
use Rattle.grid_placed.specs.Places.{Outlet, PlacedLevel, PlacesFit, positioned}
use Rattle.grid_placed.specs.Translation.{bus_terminal, translated_level}
use Rattle.grid_placed.specs.Laws.{HasOwnPlans}
use Rattle.grid_placed.proofs.BusTerminals.{absent}
use Rattle.grid_placed.proofs.PresentLevels.{level_in_positions, places_positioned}
use Rattle.grid_placed.proofs.ConnectPlans.{connect_closes, connect_stays, connect_bus}
use Rattle.grid_placed.proofs.DisconnectPlans.{disconnect_opens, disconnect_stays, disconnect_bus}

module _ (level : PlacedLevel) (fit : PlacesFit level) where
  connects_by : (k : ℕ) → k < length level.outlets → (flag : Bool) → (get_or level.outlets k absent).connected ≡ flag
      → connect_plan_of (translated_level level) (length level.buses + k) ≡ (if flag then AlreadyConnected else Close ((length level.joints + k) ∷ []))
  connects_by k lt true on = connect_stays level fit k lt on
  connects_by k lt false off = connect_closes level fit k lt off

  disconnects_by : (k : ℕ) → k < length level.outlets → (flag : Bool) → (get_or level.outlets k absent).connected ≡ flag
      → disconnect_plan_of (translated_level level) (length level.buses + k) ≡ (if flag then Opens ((length level.joints + k) ∷ []) else AlreadyDisconnected)
  disconnects_by k lt true on = disconnect_opens level fit k lt on
  disconnects_by k lt false off = disconnect_stays level fit k lt off

  flag_there : (k : ℕ) (t : Outlet) → slice_get level.outlets k ≡ Some t → (get_or level.outlets k absent).connected ≡ t.connected
  flag_there k t there = ap (λ (t : Outlet). t.connected) (get_or_from_slice_get level.outlets k t absent there)

  own_plans : HasOwnPlans level (translated_level level)
  own_plans = record {
    connects = λ k t there. connects_by k (slice_get_within level.outlets k t there) t.connected (flag_there k t there);
    disconnects = λ k t there. disconnects_by k (slice_get_within level.outlets k t there) t.connected (flag_there k t there);
    bus_connects = λ place id there. connect_bus level fit place (slice_get_within level.buses place id there);
    bus_disconnects = λ place id there.
        disconnect_bus level fit place (slice_get_within level.buses place id there) ∙ ap (λ z. NoBreaker (bus_terminal z)) (get_or_from_slice_get level.buses place id [] there);
  }

pub plans_are_own : (level : PlacedLevel) → PlacesFit level → (opened : List Bool) → HasOwnPlans (positioned level opened) (levels.positioned (translated_level level) opened)
plans_are_own level fit opened =
    subst (HasOwnPlans (positioned level opened)) (sym (level_in_positions level opened)) (own_plans (positioned level opened) (places_positioned level opened fit))
