-- What the machine of one variant makes of each request, by what is found.
use Rattle.std.proofs.Common.{◌≡◌, refl, ap, ◌∙◌, ℕ, ℤ, Bool, true, false, List, Some, None}
use Rattle.std.specs.Prelude.{Ok, Err, option_map}
use Rattle.std.specs.Bool.{beq}
use Rattle.grid_level.specs.VoltageLevel.{VoltageLevel}
use Rattle.grid_level.specs.Passing.{positioned, stood}
use Rattle.grid_structure.specs.Network.{Network}
use Rattle.grid_structure.specs.Sites.{find_level, find_switch, sides, site}
use Rattle.grid_states.specs.Rows.{row_at}
use Rattle.grid_connect.specs.Plans.{connect_plan_of, disconnect_plan_of}
use Rattle.grid_busbreaker.specs.Views.{bus_breaker_view_of}
use Rattle.grid_busview.specs.Views.{bus_view_of}
use Rattle.grid_watts.specs.Watts.{level_watts}
use Rattle.grid_islands.specs.Islands.{level_components}
use Rattle.grid_requests.specs.declared.request.Request.TheVariants as requests
use Rattle.grid_core.specs.declared.reply.Reply.TheVariants as replies
use Rattle.grid_core.specs.declared.reply.Refusal.{Refusal}
use Rattle.grid_core.specs.declared.reply.Refusal.TheVariants as refusals
use Rattle.grid_core.specs.Solo.{State, refused, flag_at, with_opened, with_retained, set_from, switched, retained_set, connected, disconnected, side_of, site_of_side, level_at, positioned_at, connected_at, connected_from, disconnected_at, disconnected_from, stood_at, bus_breaker_view_at, bus_view_at, level_found, viewed, solo}
use Rattle.grid_core.specs.History.{Command}
use Rattle.grid_core.specs.Replies.{state_of, view}
use Rattle.grid_core.proofs.PlanPlaces.{bus_view-positioned}

-- ---- switches

pub open_nowhere : (state : State) (id : List ℕ) → find_switch state.structure id ≡ None → solo state (requests.OpenSwitch id) ≡ (state, replies.Refused refusals.NoSwitch)
unfolding solo switched refused
open_nowhere state id h = rw h refl

pub close_nowhere : (state : State) (id : List ℕ) → find_switch state.structure id ≡ None → solo state (requests.CloseSwitch id) ≡ (state, replies.Refused refusals.NoSwitch)
unfolding solo switched refused
close_nowhere state id h = rw h refl

pub retain_nowhere : (state : State) (id : List ℕ) (retained : Bool) → find_switch state.structure id ≡ None → solo state (requests.RetainSwitch id retained) ≡ (state, replies.Refused refusals.NoSwitch)
unfolding solo retained_set refused
retain_nowhere state id retained h = rw h refl

pub open_found : (state : State) (id : List ℕ) (at : ℕ × ℕ) → find_switch state.structure id ≡ Some at → solo state (requests.OpenSwitch id) ≡ set_from state (flag_at state.opened at) true (with_opened state at true)
unfolding solo switched
open_found state id at h = rw h refl

pub close_found : (state : State) (id : List ℕ) (at : ℕ × ℕ) → find_switch state.structure id ≡ Some at → solo state (requests.CloseSwitch id) ≡ set_from state (flag_at state.opened at) false (with_opened state at false)
unfolding solo switched
close_found state id at h = rw h refl

pub retain_found : (state : State) (id : List ℕ) (retained : Bool) (at : ℕ × ℕ) → find_switch state.structure id ≡ Some at
    → solo state (requests.RetainSwitch id retained) ≡ set_from state (flag_at state.retained at) retained (with_retained state at retained)
unfolding solo retained_set
retain_found state id retained at h = rw h refl

-- a flag that is so already, and one that is not
pub set_already : (state : State) (now flag : Bool) (changed : State) → beq now flag ≡ true → set_from state now flag changed ≡ (state, replies.Unchanged)
unfolding set_from
set_already state now flag changed h = rw h refl

pub set_done : (state : State) (now flag : Bool) (changed : State) → beq now flag ≡ false → set_from state now flag changed ≡ (changed, replies.Done)
unfolding set_from
set_done state now flag changed h = rw h refl

-- ---- sides

pub no_equipment : (net : Network) (id : List ℕ) (side : ℤ) → sides net id ≡ None → site_of_side net id side ≡ Err refusals.NoEquipment
unfolding site_of_side
no_equipment net id side h = rw h refl

pub no_side : (net : Network) (id : List ℕ) (side : ℤ) (count : ℕ) → sides net id ≡ Some count → side_of count side ≡ None → site_of_side net id side ≡ Err refusals.NoSide
unfolding site_of_side
no_side net id side count h k = rw (h, k) refl

pub side_stands : (net : Network) (id : List ℕ) (side : ℤ) (count n : ℕ) (at : ℕ × ℕ) → sides net id ≡ Some count → side_of count side ≡ Some n → site net id n ≡ Some at → site_of_side net id side ≡ Ok at
unfolding site_of_side
side_stands net id side count n at h k found = rw (h, k, found) refl

pub connect_refused : (state : State) (id : List ℕ) (side : ℤ) (refusal : Refusal) → site_of_side state.structure id side ≡ Err refusal → solo state (requests.Connect id side) ≡ (state, replies.Refused refusal)
unfolding solo connected_from refused
connect_refused state id side refusal h = rw h refl

pub disconnect_refused : (state : State) (id : List ℕ) (side : ℤ) (refusal : Refusal) → site_of_side state.structure id side ≡ Err refusal → solo state (requests.Disconnect id side) ≡ (state, replies.Refused refusal)
unfolding solo disconnected_from refused
disconnect_refused state id side refusal h = rw h refl

pub connect_found : (state : State) (id : List ℕ) (side : ℤ) (at : ℕ × ℕ) (level : VoltageLevel) → site_of_side state.structure id side ≡ Ok at → level_at state.structure at.0 ≡ Some level
    → solo state (requests.Connect id side) ≡ connected state at.0 level (connect_plan_of (positioned level (row_at state.opened at.0)) at.1)
unfolding solo connected_from connected_at positioned_at
connect_found state id side at level h k = rw (h, k) refl

pub disconnect_found : (state : State) (id : List ℕ) (side : ℤ) (at : ℕ × ℕ) (level : VoltageLevel) → site_of_side state.structure id side ≡ Ok at → level_at state.structure at.0 ≡ Some level
    → solo state (requests.Disconnect id side) ≡ disconnected state at.0 level (disconnect_plan_of (positioned level (row_at state.opened at.0)) at.1)
unfolding solo disconnected_from disconnected_at positioned_at
disconnect_found state id side at level h k = rw (h, k) refl

-- ---- views

pub found_level : (net : Network) (id : List ℕ) (place : ℕ) (level : VoltageLevel) → find_level net id ≡ Some place → level_at net place ≡ Some level → level_found net id ≡ Some (place, level)
unfolding level_found
found_level net id place level h k = rw (h, k) refl

no_level : (net : Network) (id : List ℕ) → find_level net id ≡ None → level_found net id ≡ None
unfolding level_found
no_level net id h = rw h refl

pub bus_breaker_reply : (state : State) (id : List ℕ) (place : ℕ) (level : VoltageLevel) → find_level state.structure id ≡ Some place → level_at state.structure place ≡ Some level
    → (solo state (requests.BusBreakerView id)).1 ≡ replies.BusBreaker (bus_breaker_view_of (stood level (row_at state.opened place) (row_at state.retained place)))
unfolding solo viewed bus_breaker_view_at stood_at
bus_breaker_reply state id place level h k = rw (found_level state.structure id place level h k) refl

pub bus_reply : (state : State) (id : List ℕ) (place : ℕ) (level : VoltageLevel) → find_level state.structure id ≡ Some place → level_at state.structure place ≡ Some level
    → (solo state (requests.BusView id)).1 ≡ replies.Bus (bus_view_of (positioned level (row_at state.opened place)) (level_watts state.powers level))
unfolding solo viewed positioned_at
bus_reply state id place level h k = rw (found_level state.structure id place level h k) (ap replies.Bus (bus_view-positioned state place level))

pub components_reply : (state : State) (id : List ℕ) (place : ℕ) (level : VoltageLevel) → find_level state.structure id ≡ Some place → level_at state.structure place ≡ Some level
    → (solo state (requests.Components id)).1 ≡ replies.Components (level_components state.structure state.opened state.retained place)
unfolding solo viewed
components_reply state id place level h k = rw (found_level state.structure id place level h k) refl

pub bus_breaker_nowhere : (state : State) (id : List ℕ) → find_level state.structure id ≡ None → (solo state (requests.BusBreakerView id)).1 ≡ replies.Refused refusals.NoLevel
unfolding solo viewed
bus_breaker_nowhere state id h = rw (no_level state.structure id h) refl

pub bus_nowhere : (state : State) (id : List ℕ) → find_level state.structure id ≡ None → (solo state (requests.BusView id)).1 ≡ replies.Refused refusals.NoLevel
unfolding solo viewed
bus_nowhere state id h = rw (no_level state.structure id h) refl

pub components_nowhere : (state : State) (id : List ℕ) → find_level state.structure id ≡ None → (solo state (requests.Components id)).1 ≡ replies.Refused refusals.NoLevel
unfolding solo viewed
components_nowhere state id h = rw (no_level state.structure id h) refl

-- the view of a variant, by its positions
pub view_read : (origin : Network) (steps : List Command) (v : List ℕ) (place : ℕ) (level : VoltageLevel) → level_at (state_of origin steps v).structure place ≡ Some level
    → view origin steps v place ≡ Some (bus_view_of (positioned level (row_at (state_of origin steps v).opened place)) (level_watts (state_of origin steps v).powers level))
unfolding view positioned_at
view_read origin steps v place level h = ap (option_map (bus_view_at (state_of origin steps v) place)) h ∙ ap (λ z. Some z) (bus_view-positioned (state_of origin steps v) place level)
