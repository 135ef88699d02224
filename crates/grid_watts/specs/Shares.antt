-- By what the sums change where the structure or the list changes.
use Rattle.std.specs.Prelude.{◌≡◌, ℕ, ℤ, pos, ◌+ℤ◌, neg_ℤ, Bool, if◌then◌else◌, Option, Some, None, Ok, List}
use Rattle.grid_powers.specs.Listed.{Listed, with_value, without_value}
use Rattle.grid_level.specs.declared.Placed.{Placed}
use Rattle.grid_level.specs.declared.Stand.{Stand}
use Rattle.grid_level.specs.declared.Stand.TheVariants.{Feeder}
use Rattle.grid_structure.specs.declared.Edit.{Edit}
use Rattle.grid_structure.specs.declared.Edit.TheVariants as edits
use Rattle.grid_structure.specs.Network.{Network}
use Rattle.grid_structure.specs.Editing.{apply}
use Rattle.grid_structure.specs.Soundness.{IsSound}
use Rattle.grid_busview.specs.Views.{is_load, is_generation}
use Rattle.grid_watts.specs.Watts.{watts_for, watts_at, powered, load_total, generation_total}

-- what some watts add to a sum
abbrev pub Part : Type 0
Part = Stand → ℤ → ℤ

-- to the sum over those that the test holds of
unfoldable pub share : (Stand → Bool) → Part
share test stand watts = if test stand then watts else pos 0

-- what an equipment adds, where there is one
unfoldable pub own_part : Part → Listed → Option Placed → ℤ
own_part part listed None = pos 0
own_part part listed (Some p) = part p.stand (watts_at listed p)

-- ---- edits

-- removed equipment is listed no more
unfoldable pub listed_after : Edit → Listed → Listed
listed_after (edits.RemoveEquipment id) listed = without_value id listed
listed_after other listed = listed

-- by how much a sum grows: a new injection brings its watts, and removed equipment takes its own away
unfoldable pub edit_part : Part → Network → Listed → Edit → ℤ
edit_part part net listed (edits.AddInjection id level node item) = part (Feeder item) (watts_for listed id (Feeder item))
edit_part part net listed (edits.RemoveEquipment id) = neg_ℤ (own_part part listed (powered net id))
edit_part part net listed other = pos 0

-- ---- a value set

-- by how much a sum grows where an equipment gets these watts
unfoldable pub set_part : Part → Listed → ℤ → Placed → ℤ
set_part part listed watts p = part p.stand watts +ℤ neg_ℤ (part p.stand (watts_at listed p))

-- ---- what is said of them

abbrev pub EditsShift : Type 0
EditsShift = (net new : Network) (edit : Edit) (listed : Listed) → IsSound net → apply net edit ≡ Ok new
    → (load_total new (listed_after edit listed) ≡ load_total net listed +ℤ edit_part (share is_load) net listed edit)
    × (generation_total new (listed_after edit listed) ≡ generation_total net listed +ℤ edit_part (share is_generation) net listed edit)

abbrev pub ValuesShift : Type 0
ValuesShift = (net : Network) (id : List ℕ) (p : Placed) (watts : ℤ) (listed : Listed) → IsSound net → powered net id ≡ Some p
    → (load_total net (with_value id watts listed) ≡ load_total net listed +ℤ set_part (share is_load) listed watts p)
    × (generation_total net (with_value id watts listed) ≡ generation_total net listed +ℤ set_part (share is_generation) listed watts p)
