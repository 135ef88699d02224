-- The machine of one variant of a network with configured buses: a flag per switch and one per terminal, and what each request
-- makes of them.
use Rattle.std.specs.Prelude.{ℕ, ℤ, Bool, true, false, if◌then◌else◌, Option, Some, None, Result, Ok, Err, List, [], ◌∷◌, map, slice_get, option_map}
use Rattle.std.specs.Bool.{beq}
use Rattle.grid_ids.specs.Refusing.{◌>>=◌, found_or}
use Rattle.grid_states.specs.Rows.{row_at, with_flag}
use Rattle.grid_requests.specs.declared.request.Request.{Request}
use Rattle.grid_requests.specs.declared.request.Request.TheVariants as requests
use Rattle.grid_core.specs.declared.reply.Refusal.{Refusal}
use Rattle.grid_core.specs.declared.reply.Refusal.TheVariants as refusals
use Rattle.grid_core.specs.Solo.{flag_at, side_of}
use Rattle.grid_configured.specs.declared.network.ConfiguredNetwork.{ConfiguredNetwork}
use Rattle.grid_configured.specs.declared.view.ConfiguredView.{ConfiguredView}
use Rattle.grid_configured.specs.declared.reply.ConfiguredReply.{ConfiguredReply}
use Rattle.grid_configured.specs.declared.reply.ConfiguredReply.TheVariants.{Done, Unchanged, AlreadyConnected, AlreadyDisconnected, View, Refused}
use Rattle.grid_placed.specs.Places.{PlacedLevel, stood}
use Rattle.grid_configured.specs.Levels.{placed_levels}
use Rattle.grid_configured.specs.Sites.{find_level, find_joint, find_outlet, sides}
use Rattle.grid_configured.specs.Views.{configured_view}

-- one row per level: of each switch whether it is open, and of each terminal whether it is connected
pub record Flags : Type 0 where
  pub opened : List (List Bool)
  pub connected : List (List Bool)

-- as in the records
unfoldable pub opening : ConfiguredNetwork → Flags
opening network = record {
  opened = map (λ l. map (λ s. s.opened) l.joints) (placed_levels network);
  connected = map (λ l. map (λ t. t.connected) l.outlets) (placed_levels network);
}

-- the next flags, and the reply
abbrev pub Step : Type 0
Step = Flags × ConfiguredReply

-- a refusal leaves the flags
unfoldable pub refused : Flags → Refusal → Step
refused flags refusal = (flags, Refused refusal)

-- ---- one flag

-- the switch found is opened or closed
unfoldable pub switched : Flags → Bool → Option (ℕ × ℕ) → Step
switched flags opened None = refused flags refusals.NoSwitch
switched flags opened (Some at) =
    if beq (flag_at flags.opened at) opened then (flags, Unchanged) else (record flags { opened = with_flag flags.opened at.0 at.1 opened }, Done)

-- the reply where the terminal is as it is wanted
unfoldable pub already : Bool → ConfiguredReply
already true = AlreadyConnected
already false = AlreadyDisconnected

-- the place of the terminal of a side, or the first refusal
unfoldable pub outlet_of_side : ConfiguredNetwork → List ℕ → ℤ → Result (ℕ × ℕ) Refusal
outlet_of_side network id side = do
  count ← found_or (sides network id) refusals.NoEquipment
  n ← found_or (side_of count side) refusals.NoSide
  found_or (find_outlet network id n) refusals.NoSide

-- the terminal found is connected or disconnected
unfoldable pub plugged : Flags → Bool → Result (ℕ × ℕ) Refusal → Step
plugged flags connected (Err refusal) = refused flags refusal
plugged flags connected (Ok at) =
    if beq (flag_at flags.connected at) connected then (flags, already connected) else (record flags { connected = with_flag flags.connected at.0 at.1 connected }, Done)

-- ---- views

-- the level at a place, as it stands
unfoldable pub level_under : ConfiguredNetwork → Flags → ℕ → Option PlacedLevel
level_under network flags place = option_map (λ l. stood l (row_at flags.opened place) (row_at flags.connected place)) (slice_get (placed_levels network) place)

unfoldable pub view_under : ConfiguredNetwork → Flags → ℕ → Option ConfiguredView
view_under network flags place = option_map configured_view (level_under network flags place)

-- the view, or NoLevel
unfoldable pub viewed : Option ConfiguredView → ConfiguredReply
viewed None = Refused refusals.NoLevel
viewed (Some view) = View view

unfoldable pub viewed_at : ConfiguredNetwork → Flags → Option ℕ → ConfiguredReply
viewed_at network flags None = Refused refusals.NoLevel
viewed_at network flags (Some place) = viewed (view_under network flags place)

-- ---- the machine

unfoldable pub machine : ConfiguredNetwork → Flags → Request → Step
machine network flags (requests.OpenSwitch id) = switched flags true (find_joint network id)
machine network flags (requests.CloseSwitch id) = switched flags false (find_joint network id)
machine network flags (requests.Connect id side) = plugged flags true (outlet_of_side network id side)
machine network flags (requests.Disconnect id side) = plugged flags false (outlet_of_side network id side)
machine network flags (requests.BusView level) = (flags, viewed_at network flags (find_level network level))
-- the machine of one variant knows no other, and these networks know no further request
machine network flags other = (flags, Done)

-- the flags that a list of requests leaves; the list has the newest request first
unfoldable pub after : ConfiguredNetwork → List Request → Flags
after network [] = opening network
after network (request ∷ before) = (machine network (after network before) request).0
