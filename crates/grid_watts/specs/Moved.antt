-- What edits of a structure and values set make of what a variant has.
use Rattle.std.specs.Prelude.{◌≡◌, ℕ, ℤ, Bool, true, false, Option, Some, None, Ok, List, [], IsTrue}
use Rattle.std.specs.List.{list_all}
use Rattle.grid_powers.specs.Listed.{Listed, value_in, with_value, without_value}
use Rattle.grid_kinds.specs.declared.Injection.{Injection}
use Rattle.grid_level.specs.declared.Placed.{Placed}
use Rattle.grid_level.specs.declared.Stand.TheVariants.{Feeder}
use Rattle.grid_structure.specs.Network.{Network}
use Rattle.grid_structure.specs.Sites.{find_level}
use Rattle.grid_structure.specs.Editing.{apply}
use Rattle.grid_structure.specs.Soundness.{IsSound}
use Rattle.grid_structure.specs.declared.Edit.{Edit}
use Rattle.grid_structure.specs.declared.Edit.TheVariants as edits
use Rattle.grid_busview.specs.Views.{stand_watts}
use Rattle.grid_states.specs.declared.sums.Counted.{Counted}
use Rattle.grid_states.specs.Rows.{HasRoom, shifted, with_watts, without_terminal, with_no_pairs}
use Rattle.grid_watts.specs.Watts.{watts_at, terminals, powered, load_total, generation_total}
use Rattle.grid_watts.specs.Shares.{listed_after}
use Rattle.grid_watts.specs.Ranges.{is_narrow}
use Rattle.grid_watts.specs.Nodes.{listed_rows, rows_under, powered_at, counted, gain, change, IsListing}

-- neither a new level, nor a new injection, nor a removal of equipment
unfoldable pub leaves_rows : Edit → Bool
leaves_rows (edits.AddLevel id substation nominal_v low_v high_v) = false
leaves_rows (edits.AddInjection id level node item) = false
leaves_rows (edits.RemoveEquipment id) = false
leaves_rows other = true

-- ---- what a list keeps, it keeps

-- the records have watts of 64 bits
abbrev pub HasNarrowRecords : Network → Type 0
HasNarrowRecords net = IsTrue (list_all (λ p. is_narrow (watts_at [] p)) (terminals net))

abbrev pub NothingIsListing : Type 0
NothingIsListing = (net : Network) → HasNarrowRecords net → IsListing net []

-- a new injection has watts of 64 bits
abbrev pub HasNarrowRecord : Edit → Type 0
HasNarrowRecord (edits.AddInjection id level node item) = is_narrow (stand_watts (Feeder item)) ≡ true
HasNarrowRecord other = Unit {0}

abbrev pub EditsKeepListing : Type 0
EditsKeepListing = (net new : Network) (edit : Edit) (listed : Listed) → IsSound net → apply net edit ≡ Ok new → HasNarrowRecord edit → IsListing net listed → IsListing new (listed_after edit listed)

abbrev pub ValuesKeepListing : Type 0
ValuesKeepListing = (net : Network) (id : List ℕ) (p : Placed) (watts : ℤ) (listed : Listed) → IsSound net → powered net id ≡ Some p → IsTrue (is_narrow watts) → IsListing net listed
    → IsListing net (with_value id watts listed)

-- ---- rows and sums

-- both sums have room
abbrev pub ListingsHaveRoom : Type 0
ListingsHaveRoom = (net : Network) (opened retained : List (List Bool)) (listed : Listed) → IsSound net → IsListing net listed → HasRoom (rows_under net opened retained listed)

-- a value that is set is a pair at the node, and moves the sums by its difference to the former watts
abbrev pub ValuesMoveRows : Type 0
ValuesMoveRows = (net : Network) (id : List ℕ) (place : ℕ) (p : Placed) (watts : ℤ) (opened retained : List (List Bool)) (listed : Listed) → IsSound net → powered_at net id ≡ Some (place, p)
    → rows_under net opened retained (with_value id watts listed)
    ≡ shifted (change p.stand (watts_at listed p) watts) (with_watts (rows_under net opened retained listed) place p.node watts)

-- a new injection is not listed
abbrev pub InjectionsAreNew : Type 0
InjectionsAreNew = (net new : Network) (id level : List ℕ) (node : ℤ) (item : Injection) (listed : Listed) → IsSound net → apply net (edits.AddInjection id level node item) ≡ Ok new
    → IsListing net listed → value_in listed id ≡ None

-- so it brings the watts of its record to each sum, and no pair
abbrev pub InjectionsMoveRows : Type 0
InjectionsMoveRows = (net new : Network) (id level : List ℕ) (node : ℤ) (item : Injection) (opened retained : List (List Bool)) (listed : Listed) → IsSound net
    → apply net (edits.AddInjection id level node item) ≡ Ok new → IsListing net listed
    → rows_under new opened retained listed ≡ shifted (gain (Feeder item)) (rows_under net opened retained listed)

-- a load, a generator or a battery that is removed takes its watts and its pair away
abbrev pub RemovalsMoveRows : Type 0
RemovalsMoveRows = (net new : Network) (id : List ℕ) (place : ℕ) (p : Placed) (counts : Counted) (opened retained : List (List Bool)) (listed : Listed) → IsSound net
    → apply net (edits.RemoveEquipment id) ≡ Ok new → powered_at net id ≡ Some (place, p) → counted p.stand ≡ Some counts
    → rows_under new opened retained (without_value id listed) ≡ without_terminal (rows_under net opened retained listed) place p.node counts

-- other equipment that is removed leaves them
abbrev pub RemovalsLeaveRows : Type 0
RemovalsLeaveRows = (net new : Network) (id : List ℕ) (opened retained : List (List Bool)) (listed : Listed) → IsSound net → apply net (edits.RemoveEquipment id) ≡ Ok new → powered_at net id ≡ None
    → rows_under new opened retained (without_value id listed) ≡ rows_under net opened retained listed

-- a new level has no pair
abbrev pub LevelsMoveRows : Type 0
LevelsMoveRows = (net new : Network) (id substation : List ℕ) (nominal_v : ℤ) (low_v high_v : Option ℤ) (place : ℕ) (listed : Listed) → IsSound net
    → apply net (edits.AddLevel id substation nominal_v low_v high_v) ≡ Ok new → find_level new id ≡ Some place
    → (listed_rows listed new ≡ with_no_pairs (listed_rows listed net) place) × ((load_total new listed ≡ load_total net listed) × (generation_total new listed ≡ generation_total net listed))

-- the other edits leave them
abbrev pub OthersLeaveRows : Type 0
OthersLeaveRows = (net new : Network) (edit : Edit) (opened retained : List (List Bool)) (listed : Listed) → IsSound net → apply net edit ≡ Ok new → IsTrue (leaves_rows edit)
    → rows_under new opened retained listed ≡ rows_under net opened retained listed
