-- Plans name switches of the level, and views by positions alone.
use Rattle.std.proofs.Common.{◌≡◌, ap, subst, ℕ, zero, suc, ◌+◌, ◌<◌, Bool, true, false, List, [], ◌∷◌, length, arith, Option, Some, None}
use Rattle.std.specs.Prelude.{All, filter, slice_get, get_or, if◌then◌else◌}
use Rattle.std.specs.List.{enumerate_from}
use Rattle.std.proofs.lemmas.Bool.{false≢true}
use Rattle.std.proofs.lemmas.List.Elements.{filter_passes, All-filter, All-map}
use Rattle.std.proofs.lemmas.List.FromFn.{get_or-enumerate_from, length-enumerate_from}
use Rattle.grid_level.specs.declared.Switch.{Switch}
use Rattle.grid_level.specs.declared.Placed.{Placed}
use Rattle.grid_level.specs.VoltageLevel.{VoltageLevel}
use Rattle.grid_level.specs.Passing.{positioned, is_connected}
use Rattle.grid_level.proofs.Positions.{length_opened}
use Rattle.grid_states.specs.Rows.{row_at}
use Rattle.grid_paths.specs.Paths.{least_path}
use Rattle.grid_connect.specs.declared.ConnectPlan.TheVariants.{Close, AlreadyConnected}
use Rattle.grid_connect.specs.declared.DisconnectPlan.TheVariants.{Opens, AlreadyDisconnected}
use Rattle.grid_connect.specs.Plans.{opened_at, is_open, closable_paths, plan_along, connect_plan_of, core_of, core_busbar, leaves_core, leaving, opens_or, disconnect_plan_of}
use Rattle.grid_busview.specs.Views.{bus_view_of}
use Rattle.grid_watts.specs.Watts.{level_watts}
use Rattle.grid_busview.proofs.LabelViews.{retained_ignored}
use Rattle.grid_structure.specs.Network.{Network}
use Rattle.grid_core.specs.Solo.{State, level_at, positioned_at, stood_at, bus_view_at}
use Rattle.grid_core.specs.Fitting.{RowsFit}
use Rattle.grid_core.proofs.Ranges.{row_of_level}

-- the bus view does not depend on the flags retained
pub bus_view-positioned : (state : State) (place : ℕ) (level : VoltageLevel) → bus_view_at state place level ≡ bus_view_of (positioned_at state place level) (level_watts state.powers level)
unfolding bus_view_at stood_at positioned_at
bus_view-positioned state place level = retained_ignored level (row_at state.opened place) (row_at state.retained place) (level_watts state.powers level)

-- ---- places

open_below : (ss : List Switch) (p : ℕ) → opened_at (slice_get ss p) ≡ true → p < length ss
unfolding opened_at
open_below [] p h = absurd (false≢true h)
open_below (s ∷ ss) zero h = omega arith
open_below (s ∷ ss) (suc p) h = omega (arith, open_below ss p h)

along_below : (level : VoltageLevel) (found : Option (List ℕ)) (places : List ℕ) → plan_along (is_open level) found ≡ Close places → All (λ p. p < length level.switches) places
unfolding plan_along is_open
along_below level (Some path) places h =
    let same : filter (λ p. opened_at (slice_get level.switches p)) path ≡ places = cc in
    subst (λ (z : List ℕ). All (λ p. p < length level.switches) z) same (λ k d below. open_below level.switches _ (filter_passes (λ p. opened_at (slice_get level.switches p)) path k d below))
along_below level None places h = cc

connect_below : (level : VoltageLevel) (a : ℕ) (places : List ℕ) → connect_plan_of level a ≡ Close places → All (λ p. p < length level.switches) places
unfolding connect_plan_of
connect_below level a places h = by (is_connected level a) h
  where
    by : (t : Bool) → (if t then AlreadyConnected else plan_along (is_open level) (least_path (is_open level) (closable_paths level a))) ≡ Close places → All (λ p. p < length level.switches) places
    by true h = cc
    by false h = along_below level _ places h

numbered_below : {X : Type 0} (xs : List X) → All (λ (e : ℕ × X). e.0 < length xs) (enumerate_from 0 xs)
numbered_below {X} xs k d below =
    let within : k < length xs = omega (arith, below, length-enumerate_from 0 xs) in
    let is : (get_or (enumerate_from 0 xs) k d).0 ≡ 0 + k = ap (λ (e : ℕ × X). e.0) (get_or-enumerate_from 0 xs k d within) in
    omega (arith, is, within)

leaving_below : (level : VoltageLevel) (ns : List ℕ) → All (λ p. p < length level.switches) (leaving level ns)
unfolding leaving
leaving_below level ns =
    All-map (λ p. p < length level.switches) (λ (e : ℕ × Switch). e.0) (filter (λ (e : ℕ × Switch). leaves_core ns e.1) (enumerate_from 0 level.switches))
    (All-filter (λ (e : ℕ × Switch). leaves_core ns e.1) (λ (e : ℕ × Switch). e.0 < length level.switches) (enumerate_from 0 level.switches) (numbered_below level.switches))

disconnect_below : (level : VoltageLevel) (a : ℕ) (places : List ℕ) → disconnect_plan_of level a ≡ Opens places → All (λ p. p < length level.switches) places
unfolding disconnect_plan_of opens_or
disconnect_below level a places h = by (is_connected level a) (core_busbar level (core_of level a)) h
  where
    by : (t : Bool) (found : Option Placed) → (if t then opens_or (leaving level (core_of level a)) found else AlreadyDisconnected) ≡ Opens places → All (λ p. p < length level.switches) places
    by true (Some p) h = cc
    by true None h = let same : leaving level (core_of level a) ≡ places = cc in subst (λ (z : List ℕ). All (λ p. p < length level.switches) z) same (leaving_below level (core_of level a))
    by false found h = cc

-- the places of a plan have flags in rows that fit
in_row : (net : Network) (rows : List (List Bool)) (place : ℕ) (level : VoltageLevel) (places : List ℕ) → RowsFit net rows → level_at net place ≡ Some level
    → All (λ p. p < length (positioned level (row_at rows place)).switches) places → All (λ p. p < length (row_at rows place)) places
unfolding positioned
in_row net rows place level places fit at all = λ k d below. omega (arith, all k d below, length_opened level.switches (row_at rows place), row_of_level net rows place level fit at)

pub connect_places : (net : Network) (rows : List (List Bool)) (place : ℕ) (level : VoltageLevel) (node : ℕ) (places : List ℕ) → RowsFit net rows → level_at net place ≡ Some level
    → connect_plan_of (positioned level (row_at rows place)) node ≡ Close places → All (λ p. p < length (row_at rows place)) places
connect_places net rows place level node places fit at h = in_row net rows place level places fit at (connect_below (positioned level (row_at rows place)) node places h)

pub disconnect_places : (net : Network) (rows : List (List Bool)) (place : ℕ) (level : VoltageLevel) (node : ℕ) (places : List ℕ) → RowsFit net rows → level_at net place ≡ Some level
    → disconnect_plan_of (positioned level (row_at rows place)) node ≡ Opens places → All (λ p. p < length (row_at rows place)) places
disconnect_places net rows place level node places fit at h = in_row net rows place level places fit at (disconnect_below (positioned level (row_at rows place)) node places h)
