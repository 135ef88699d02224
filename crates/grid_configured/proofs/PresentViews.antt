-- What is seen of a level of the node/breaker form is what is seen of its configured buses.
use Rattle.std.proofs.Common.{◌≡◌, refl, sym, ap, ◌∙◌, ℕ, Bool, true, false, List, length}
use Rattle.std.specs.Prelude.{Some, None, option_map, slice_get}
use Rattle.grid_level.specs.Passing.{positioned}
use Rattle.grid_states.specs.Rows.{row_at}
use Rattle.grid_busview.specs.Views.{record_watts, bus_view_of}
use Rattle.grid_requests.specs.declared.request.Request.TheVariants as requests
use Rattle.grid_core.specs.declared.reply.Refusal.TheVariants as refusals
use Rattle.grid_core.specs.Solo.{State, positioned_at}
use Rattle.grid_core.specs.History.{Command, is_live, working}
use Rattle.grid_core.specs.Replies.{state_of}
use Rattle.grid_configured.specs.declared.network.ConfiguredNetwork.{ConfiguredNetwork}
use Rattle.grid_configured.specs.declared.view.ConfiguredView.{ConfiguredView}
use Rattle.grid_configured.specs.declared.reply.ConfiguredReply.TheVariants as told
use Rattle.grid_placed.specs.Places.{PlacedLevel, stood}
use Rattle.grid_configured.specs.Levels.{placed_levels}
use Rattle.grid_placed.specs.Translation.{outlets_at, translated_level}
use Rattle.grid_configured.specs.Translation.{translated}
use Rattle.grid_configured.specs.Views.{configured_view}
use Rattle.grid_configured.specs.Viewed.{told_view}
use Rattle.grid_configured.specs.Sites.{find_level}
use Rattle.grid_configured.specs.Machine.{Flags, level_under, view_under, viewed, viewed_at, machine}
use Rattle.grid_configured.specs.Histories.{flags_of, reply_on, reply_to, view, ArePlain}
use Rattle.grid_placed.proofs.PresentLevels.{places_stood, placed_flagged}
use Rattle.grid_configured.proofs.BusViews.{view_told}
use Rattle.grid_configured.proofs.Mirrors.{NetworkFits, Mirrors}
use Rattle.grid_configured.proofs.TerminalMirrors.{fits_at, level_now}
use Rattle.grid_configured.proofs.HistoryMirrors.{variant_mirrors}

same_watts : (level : PlacedLevel) (opened connected : List Bool) → record_watts (translated_level (stood level opened connected)) ≡ record_watts (translated_level level)
unfolding record_watts translated_level stood outlets_at
same_watts level opened connected = rw (placed_flagged (length level.buses) level.outlets connected) refl

-- the bus view of a level in its present positions
pub view_now : (network : ConfiguredNetwork) → NetworkFits network → (state : State) (flags : Flags) → Mirrors network state flags → (place : ℕ) (level : PlacedLevel) → slice_get (placed_levels network) place ≡ Some level
    → view_under network flags place ≡ Some (told_view (length level.buses) (bus_view_of (positioned (translated_level level) (row_at state.opened place)) (record_watts (translated_level level))))
unfolding view_under level_under positioned_at stood
view_now network fits state flags m place level there =
    let o = row_at flags.opened place in
    let c = row_at flags.connected place in
    ap (λ z. option_map configured_view (option_map (λ l. stood l o c) z)) there
    ∙ ap Some (sym (view_told (stood level o c) (places_stood level o c (fits_at network fits place level there))))
    ∙ ap (λ z. Some (told_view (length level.buses) (bus_view_of (translated_level (stood level o c)) z))) (same_watts level o c)
    ∙ ap (λ z. Some (told_view (length level.buses) (bus_view_of z (record_watts (translated_level level))))) (sym (level_now network fits state flags m place level there))

module _ (network : ConfiguredNetwork) (fits : NetworkFits network) (steps : List Command) (plain : ArePlain steps) where
  -- the view of a level in a variant
  pub variant_view : (v : List ℕ) (place : ℕ) (level : PlacedLevel) → slice_get (placed_levels network) place ≡ Some level
      → view network steps v place ≡ Some (told_view (length level.buses) (bus_view_of (positioned (translated_level level) (row_at (state_of (translated network) steps v).opened place)) (record_watts (translated_level level))))
  unfolding view
  variant_view v place level there = view_now network fits (state_of (translated network) steps v) (flags_of network steps v) (variant_mirrors network fits steps v plain) place level there

  -- the reply that shows it
  pub view_reply : (worker : ℕ) (id : List ℕ) (place : ℕ) (seen : ConfiguredView) → is_live steps (working steps worker) ≡ true → find_level network id ≡ Some place
      → view network steps (working steps worker) place ≡ Some seen → reply_to network steps worker (requests.BusView id) ≡ told.View seen
  unfolding reply_to reply_on machine viewed_at viewed view
  view_reply worker id place seen alive found e = rw (alive, found, e) refl

  -- the reply where the working variant is not live
  pub dead_reply : (worker : ℕ) (id : List ℕ) → is_live steps (working steps worker) ≡ false → reply_to network steps worker (requests.BusView id) ≡ told.Refused refusals.NoVariant
  unfolding reply_to reply_on
  dead_reply worker id dead = rw dead refl

  -- and where no level has the id
  pub lost_reply : (worker : ℕ) (id : List ℕ) → is_live steps (working steps worker) ≡ true → find_level network id ≡ None → reply_to network steps worker (requests.BusView id) ≡ told.Refused refusals.NoLevel
  unfolding reply_to reply_on machine viewed_at
  lost_reply worker id alive none = rw (alive, none) refl
