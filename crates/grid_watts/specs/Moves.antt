-- A list of watts and its sums, changed together.
use Rattle.std.specs.Prelude.{◌≡◌, ℕ, ℤ, ◌+ℤ◌, neg_ℤ, Bool, true, false, Option, Some, None, Ok, List, IsTrue}
use Rattle.grid_powers.specs.Listed.{Listed, PowerList, with_value, without_value, shifted}
use Rattle.grid_kinds.specs.declared.Injection.{Injection}
use Rattle.grid_level.specs.declared.Placed.{Placed}
use Rattle.grid_level.specs.declared.Stand.{Stand}
use Rattle.grid_busview.specs.Views.{is_load, is_generation}
use Rattle.grid_level.specs.declared.Stand.TheVariants.{Feeder}
use Rattle.grid_structure.specs.Network.{Network}
use Rattle.grid_structure.specs.Editing.{apply}
use Rattle.grid_structure.specs.Soundness.{IsSound}
use Rattle.grid_structure.specs.declared.Edit.{Edit}
use Rattle.grid_structure.specs.declared.Edit.TheVariants as edits
use Rattle.grid_watts.specs.Watts.{watts_for, watts_at, powered}
use Rattle.grid_watts.specs.Shares.{share, set_part, edit_part, listed_after}
use Rattle.grid_watts.specs.Ranges.{is_narrow, IsSummed}

-- a new injection brings its watts
unfoldable pub gained : List ℕ → Stand → PowerList → PowerList
gained id stand powers = shifted (share is_load stand (watts_for powers.listed id stand)) (share is_generation stand (watts_for powers.listed id stand)) powers

-- what stands at a node takes its watts away
unfoldable pub taken : Placed → PowerList → PowerList
taken p powers = shifted (neg_ℤ (share is_load p.stand (watts_at powers.listed p))) (neg_ℤ (share is_generation p.stand (watts_at powers.listed p))) powers

-- removed equipment takes its own away, and is listed no more
unfoldable pub lost : List ℕ → Option Placed → PowerList → PowerList
lost id None powers = record powers { listed = without_value id powers.listed }
lost id (Some p) powers = record (taken p powers) { listed = without_value id powers.listed }

-- what stands at a node under this id, a load, generator or battery, gets these watts
unfoldable pub set_to : List ℕ → Placed → ℤ → PowerList → PowerList
set_to id p watts powers = record (shifted (set_part (share is_load) powers.listed watts p) (set_part (share is_generation) powers.listed watts p) powers) { listed = with_value id watts powers.listed }

-- what an edit of a structure makes of a list of watts and its sums
unfoldable pub edit_moved : Network → Edit → PowerList → PowerList
edit_moved net edit powers = record {
  listed = listed_after edit powers.listed;
  load = powers.load +ℤ edit_part (share is_load) net powers.listed edit;
  generation = powers.generation +ℤ edit_part (share is_generation) net powers.listed edit;
}

-- a new injection has watts of 64 bits
abbrev pub BringsNarrow : Edit → Listed → Type 0
BringsNarrow (edits.AddInjection id level node item) listed = is_narrow (watts_for listed id (Feeder item)) ≡ true
BringsNarrow other listed = Unit {0}

-- neither a new injection nor a removal of equipment
unfoldable pub leaves_powers : Edit → Bool
leaves_powers (edits.AddInjection id level node item) = false
leaves_powers (edits.RemoveEquipment id) = false
leaves_powers other = true

-- ---- what is said of them: the two numbers stay the sums

abbrev pub InjectionsKeepSums : Type 0
InjectionsKeepSums = (net new : Network) (id level : List ℕ) (node : ℤ) (item : Injection) (powers : PowerList) → IsSound net → apply net (edits.AddInjection id level node item) ≡ Ok new
    → IsTrue (is_narrow (watts_for powers.listed id (Feeder item))) → IsSummed net powers → IsSummed new (gained id (Feeder item) powers)

abbrev pub RemovalsKeepSums : Type 0
RemovalsKeepSums = (net new : Network) (id : List ℕ) (powers : PowerList) → IsSound net → apply net (edits.RemoveEquipment id) ≡ Ok new
    → IsSummed net powers → IsSummed new (lost id (powered net id) powers)

abbrev pub OthersKeepSums : Type 0
OthersKeepSums = (net new : Network) (edit : Edit) (powers : PowerList) → IsSound net → apply net edit ≡ Ok new → IsTrue (leaves_powers edit) → IsSummed net powers → IsSummed new powers

abbrev pub ValuesKeepSums : Type 0
ValuesKeepSums = (net : Network) (id : List ℕ) (p : Placed) (watts : ℤ) (powers : PowerList) → IsSound net → powered net id ≡ Some p
    → IsTrue (is_narrow watts) → IsSummed net powers → IsSummed net (set_to id p watts powers)
