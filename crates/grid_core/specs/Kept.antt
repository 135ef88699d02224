-- What is kept for the variant in each slot, and what a request leaves of it.
use Rattle.std.specs.Prelude.{◌≡◌, ◌≢◌, ℕ, Bool, true, false, Option, Some, None, List, slice_get}
use Rattle.std.specs.Option.{option_map}
use Rattle.grid_structure.specs.declared.Edit.{Edit}
use Rattle.grid_structure.specs.declared.Edit.TheVariants as edits
use Rattle.grid_structure.specs.Network.{Network}
use Rattle.grid_structure.specs.Sites.{levels, find_switch}
use Rattle.grid_level.specs.VoltageLevel.{VoltageLevel}
use Rattle.grid_states.specs.Rows.{Rows, row_at}
use Rattle.grid_bench.specs.Contents.{content}
use Rattle.grid_bench.specs.Stores.{Store, kept_for}
use Rattle.grid_slots.specs.Variant.{Variant}
use Rattle.grid_slots.specs.Variants.{rows_at}
use Rattle.grid_islands.specs.declared.kept.KeptBuses.{KeptBuses}
use Rattle.grid_islands.specs.Kept.{AreBusesOf, AreKept, AreKeptBut}
use Rattle.grid_requests.specs.declared.request.Request.{Request}
use Rattle.grid_requests.specs.declared.request.Request.TheVariants as requests
use Rattle.grid_core.specs.declared.kept.SlotKept.{SlotKept}
use Rattle.grid_core.specs.declared.kept.Kept.{Kept}
use Rattle.grid_core.specs.declared.kept.Known.{Known}
use Rattle.grid_core.specs.declared.kept.Known.TheVariants as knowns
use Rattle.grid_core.specs.declared.touched.Touched.{Touched}
use Rattle.grid_core.specs.declared.touched.Touched.TheVariants as touches
use Rattle.grid_core.specs.Copied.{AreCopies}
use Rattle.grid_core.specs.declared.reply.Reply.{Reply}
use Rattle.grid_core.specs.declared.reply.Reply.TheVariants as replies

-- the buses of the levels of which it is known are kept under these flags
unfoldable pub AreKnown : Network → List (List Bool) → KeptBuses → Known → Type 0
AreKnown net opened buses knowns.All = AreKept net opened buses
AreKnown net opened buses (knowns.AllBut place) = AreKeptBut net opened place buses
AreKnown net opened buses knowns.Nothing = Unit {0}

-- the buses are of this structure; those of which it is known that they are kept under the present flags are kept under these
pub record AreSlotBuses (net : Network) (opened : List (List Bool)) (own : SlotKept) : Type 0 where
  pub made : AreBusesOf net own.buses
  pub known : AreKnown net opened own.buses own.known

-- it is so of each slot, under the flags of the variant that has the slot
abbrev pub AreBySlot : Network → List Variant → List SlotKept → Type 0
AreBySlot net variants all = (slot : ℕ) (own : SlotKept) → slice_get all slot ≡ Some own → AreSlotBuses net (rows_at variants slot).opened own

-- the buses are so of each slot, and the copies are the structure's levels
pub record IsKept (net : Network) (variants : List Variant) (kept : Kept) : Type 0 where
  pub slots : AreBySlot net variants kept.slots.items
  pub copies : AreCopies net kept.copies

-- it is the level at a place, which the bench keeps with the flags of its rows
pub record IsKeptLevel (net : Network) (rows : Rows) (place : ℕ) (bench : Store) (level : VoltageLevel) : Type 0 where
  pub there : slice_get (levels net) place ≡ Some level
  pub kept : kept_for bench level.id ≡ Some (content level (row_at rows.opened place) (row_at rows.retained place))

-- ---- flags that move

-- the flags of every level but the one at a place are as before
abbrev pub LeavesRow : ℕ → List (List Bool) → List (List Bool) → Type 0
LeavesRow level was opened = (other : ℕ) → other ≢ level → row_at opened other ≡ row_at was other

-- so it is where there is a place
unfoldable pub IsRowMove : Option ℕ → List (List Bool) → List (List Bool) → Type 0
IsRowMove None was opened = Unit {0}
IsRowMove (Some level) was opened = LeavesRow level was opened

-- and of the variant in each slot
unfoldable pub AreMoved : Option ℕ → List Variant → List Variant → Type 0
AreMoved None before after = Unit {0}
AreMoved (Some level) before after = (slot : ℕ) → LeavesRow level (rows_at before slot).opened (rows_at after slot).opened

-- the level of the switch that a request moves
unfoldable pub moves_at : Network → Request → Option ℕ
moves_at net (requests.OpenSwitch id) = option_map (λ at. at.0) (find_switch net id)
moves_at net (requests.CloseSwitch id) = option_map (λ at. at.0) (find_switch net id)
moves_at net other = None

-- the one level that a request touches, where it moves a switch
unfoldable pub moved_level : Request → Touched → Option ℕ
moved_level (requests.OpenSwitch id) (touches.Level place) = Some place
moved_level (requests.CloseSwitch id) (touches.Level place) = Some place
moved_level request touched = None

-- what a request that moves a switch touches is the level of the switch
abbrev pub IsMoveOf : Network → Request → Touched → Type 0
IsMoveOf net request touched = (place : ℕ) → moved_level request touched ≡ Some place → moves_at net request ≡ Some place

-- in the variant in each slot the same is open as before
abbrev pub SameFlags : List Variant → List Variant → Type 0
SameFlags before after = (slot : ℕ) → (rows_at after slot).opened ≡ (rows_at before slot).opened

-- ---- what a request leaves

-- an edit that leaves levels and branches as they are
unfoldable pub edit_leaves : Edit → Bool
edit_leaves (edits.AddSubstation id) = true
edit_leaves other = false

-- a request that leaves levels and branches, and in the variant in each slot what is open, as they are
unfoldable pub leaves : Request → Bool
leaves (requests.UseVariant name) = true
leaves (requests.SetPower id watts) = true
leaves requests.Totals = true
leaves (requests.BusBreakerView level) = true
leaves (requests.BusView level) = true
leaves (requests.Components level) = true
leaves (requests.Change edit) = edit_leaves edit
leaves other = false

-- an edit that is accepted, by its reply
unfoldable pub accepts : Request → Reply → Bool
accepts (requests.Change edit) replies.Done = true
accepts request reply = false
