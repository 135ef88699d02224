-- Flags that a request moves: those of one level, in the variants' slots.
use Rattle.std.proofs.Common.{◌≡◌, ◌≢◌, refl, sym, ap, ◌∙◌, subst, ℕ, ℤ, Bool, true, false, List, [], ◌∷◌, set, get_or, get_or-set_other, Option, Some, None}
use Rattle.std.specs.Prelude.{◌==◌, if◌then◌else◌, find, map, unwrap_or, Result, Ok, Err, OnOk}
use Rattle.std.proofs.lemmas.Option.{slice_get_within}
use Rattle.std.specs.Option.{option_map}
use Rattle.std.proofs.lemmas.Bool.{false≢true}
use Rattle.grid_structure.specs.Network.{Network}
use Rattle.grid_structure.specs.Sites.{levels, find_switch}
use Rattle.grid_islands.specs.declared.kept.KeptBuses.{KeptBuses}
use Rattle.grid_islands.specs.Kept.{kept_of, AreKept, AreKeptBut}
use Rattle.grid_states.specs.Rows.{Rows, row_at, no_rows, with_row, with_flag, with_opened, with_watts, shifted}
use Rattle.grid_states.specs.declared.sums.Shift.{Shift}
use Rattle.grid_slots.specs.Variant.{Variant}
use Rattle.grid_slots.specs.Variants.{rows_at, with_rows, changed}
use Rattle.grid_requests.specs.declared.request.Request.{Request}
use Rattle.grid_requests.specs.declared.request.Request.TheVariants as requests
use Rattle.grid_core.specs.declared.machine.Machine.{Machine}
use Rattle.grid_core.specs.declared.touched.Touched.{Touched}
use Rattle.grid_core.specs.declared.touched.Touched.TheVariants as touches
use Rattle.grid_core.specs.Touched.{IsTouch, IsLevelOfSwitch}
use Rattle.grid_core.specs.declared.verdict.Verdict.TheVariants as verdicts
use Rattle.grid_core.specs.Verdicts.{puts, DecidesSome}
use Rattle.grid_core.specs.Kept.{LeavesRow, IsRowMove, AreMoved, IsMoveOf, SameFlags, moves_at, moved_level}

pub on_ok : {T E : Type 0} {P : Type 0} (r : Result T E) → P → OnOk r P
on_ok (Ok x) p = p
on_ok (Err e) p = tt

-- ---- levels that are kept

pub all_but : (net : Network) (was opened : List (List Bool)) (level : ℕ) (buses : KeptBuses) → LeavesRow level was opened → AreKept net was buses → AreKeptBut net opened level buses
all_but net was opened level buses move every k l ne at = every k l (slice_get_within (levels net) k l at) at ∙ ap (λ (row : List Bool). Some (kept_of l row)) (sym (move k ne))

pub but_still : (net : Network) (was opened : List (List Bool)) (level : ℕ) (buses : KeptBuses) → LeavesRow level was opened → AreKeptBut net was level buses → AreKeptBut net opened level buses
but_still net was opened level buses move but k l ne at = but k l ne at ∙ ap (λ (row : List Bool). Some (kept_of l row)) (sym (move k ne))

-- ---- flags

-- where nothing changes, nothing moves
pub none_moved : (moved : Option ℕ) (slots : List Variant) → AreMoved moved slots slots
unfolding AreMoved
none_moved None slots = tt
none_moved (Some level) slots = λ slot other ne. refl

-- nor is anything else open
pub same_flags : (before after : List Variant) → after ≡ before → SameFlags before after
same_flags before after same slot = ap (λ (vs : List Variant). (rows_at vs slot).opened) same

pub slot_moved : (moved : Option ℕ) (before after : List Variant) (slot : ℕ) → AreMoved moved before after → IsRowMove moved (rows_at before slot).opened (rows_at after slot).opened
unfolding AreMoved IsRowMove
slot_moved None before after slot move = tt
slot_moved (Some level) before after slot move = move slot

-- ---- rows changed in one slot

abbrev rows_in : Option Variant → Rows
rows_in found = unwrap_or (option_map (λ v. v.rows) found) no_rows

-- what the change leaves of rows is in each slot as before
module _ {X : Type 0} (part : Rows → X) (change : Rows → Rows) (left : (rows : Rows) → part (change rows) ≡ part rows) (slot at : ℕ) where
  abbrev changed_in : Bool → Variant → Variant
  changed_in here v = if here then with_rows v (change v.rows) else v

  choice : (here : Bool) (a b : Variant) (x y : Option Variant) → part a.rows ≡ part b.rows → part (rows_in x) ≡ part (rows_in y) → part (rows_in (if here then Some a else x)) ≡ part (rows_in (if here then Some b else y))
  choice true a b x y same rest = same
  choice false a b x y same rest = rest

  step : (here : Bool) (v : Variant) (x y : Option Variant) → part (rows_in x) ≡ part (rows_in y)
      → part (rows_in (if (changed_in here v).slot == at then Some (changed_in here v) else x)) ≡ part (rows_in (if v.slot == at then Some v else y))
  unfolding with_rows
  step true v x y rest = choice (v.slot == at) (record v { rows = change v.rows }) v x y (left v.rows) rest
  step false v x y rest = choice (v.slot == at) v v x y refl rest

  found_alike : (vs : List Variant) → part (rows_in (find (λ v. v.slot == at) (map (λ v. changed_in (v.slot == slot) v) vs))) ≡ part (rows_in (find (λ v. v.slot == at) vs))
  found_alike [] = refl
  found_alike (v ∷ vs) = step (v.slot == slot) v (find (λ v. v.slot == at) (map (λ v. changed_in (v.slot == slot) v) vs)) (find (λ v. v.slot == at) vs) (found_alike vs)

  part_left : (variants : List Variant) → part (rows_at (changed (λ v. v.slot == slot) change variants) at) ≡ part (rows_at variants at)
  unfolding changed rows_at
  part_left variants = found_alike variants

-- one flag set
flag_elsewhere : (rows : Rows) (level place other : ℕ) (opened : Bool) → other ≢ level → row_at (with_opened rows level place opened).opened other ≡ row_at rows.opened other
unfolding with_opened with_flag with_row row_at
flag_elsewhere rows level place other opened ne = get_or-set_other rows.opened level other (set (get_or rows.opened level []) place opened) [] ne

pub set_moved : (slot level place : ℕ) (opened : Bool) (variants : List Variant) → AreMoved (Some level) variants (changed (λ v. v.slot == slot) (λ rows. with_opened rows level place opened) variants)
unfolding AreMoved
set_moved slot level place opened variants at other ne = part_left (λ rows. row_at rows.opened other) (λ rows. with_opened rows level place opened) (λ rows. flag_elsewhere rows level place other opened ne) slot at variants

-- watts set
pub watts_left : (slot level node : ℕ) (watts : ℤ) (by : Shift) (variants : List Variant) → SameFlags variants (changed (λ v. v.slot == slot) (λ rows. shifted by (with_watts rows level node watts)) variants)
unfolding shifted with_watts
watts_left slot level node watts by variants at = part_left (λ rows. rows.opened) (λ rows. shifted by (with_watts rows level node watts)) (λ rows. refl) slot at variants

-- ---- what moves

pub move_of : (net : Network) (request : Request) (touched : Touched) (before after : List Variant) → IsMoveOf net request touched → AreMoved (moves_at net request) before after → AreMoved (moved_level request touched) before after
unfolding AreMoved
move_of net request touched before after is move = by (moved_level request touched) (λ place e. is place e)
  where
    by : (o : Option ℕ) → ((place : ℕ) → o ≡ Some place → moves_at net request ≡ Some place) → AreMoved o before after
    by None h = tt
    by (Some place) h = subst (λ (m : Option ℕ). AreMoved m before after) (h place refl) move

-- where all levels are touched no single one is
pub all_touched : (net : Network) (request : Request) → IsMoveOf net request touches.All
unfolding moved_level
all_touched net (requests.Change edit) place e = absurd (cc)
all_touched net other place e = absurd (cc)

-- a request that puts switches into a position moves none alone
pub puts_none_moved : (net : Network) (r : Request) (opened : Bool) → puts r opened ≡ true → moves_at net r ≡ None
unfolding puts moves_at
puts_none_moved net (requests.OpenSwitch id) opened h = absurd (false≢true h)
puts_none_moved net (requests.CloseSwitch id) opened h = absurd (false≢true h)
puts_none_moved net other opened h = refl

pub switches_moved : (m : Machine) (v : List ℕ) (r : Request) (level : ℕ) (places : List ℕ) (opened : Bool) (before after : List Variant) → DecidesSome m v r (verdicts.Switches level places opened) → AreMoved (moves_at m.structure r) before after
unfolding AreMoved
switches_moved m v r level places opened before after d = subst (λ (o : Option ℕ). AreMoved o before after) (sym (puts_none_moved m.structure r opened d.1.1.is.fits.0)) tt

-- ---- the level of a switch

pub switch_touch : (net : Network) (id : List ℕ) (touched : Touched) → IsLevelOfSwitch net id touched → IsTouch net net touched
switch_touch net id (touches.Level place) is = λ other ne. refl
switch_touch net id (touches.Ends first second third) is = absurd is
switch_touch net id touches.All is = tt

level_moved : (net : Network) (id : List ℕ) (touched : Touched) → IsLevelOfSwitch net id touched → (place : ℕ) → moved_level (requests.OpenSwitch id) touched ≡ Some place → option_map (λ at. at.0) (find_switch net id) ≡ Some place
unfolding moved_level
level_moved net id (touches.Level own) is place e = ap (option_map (λ at. at.0)) is.1 ∙ e
level_moved net id (touches.Ends first second third) is place e = absurd is
level_moved net id touches.All is place e = absurd (cc)

pub opened_moved : (net : Network) (id : List ℕ) (touched : Touched) → IsLevelOfSwitch net id touched → IsMoveOf net (requests.OpenSwitch id) touched
unfolding moves_at
opened_moved net id touched is place e = level_moved net id touched is place e

pub closed_moved : (net : Network) (id : List ℕ) (touched : Touched) → IsLevelOfSwitch net id touched → IsMoveOf net (requests.CloseSwitch id) touched
unfolding moves_at moved_level
closed_moved net id touched is place e = level_moved net id touched is place (by touched e)
  where
    by : (t : Touched) → moved_level (requests.CloseSwitch id) t ≡ Some place → moved_level (requests.OpenSwitch id) t ≡ Some place
    by (touches.Level own) h = h
    by (touches.Ends first second third) h = h
    by touches.All h = h
