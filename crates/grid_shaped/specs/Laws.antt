-- What stands in a loaded network for each level with configured buses of its draft.
use Rattle.std.specs.Prelude.{◌≡◌, ℕ, ◌+◌, Some, Ok, List, length, slice_get, All}
use Rattle.grid_graph.specs.Components.{places}
use Rattle.grid_level.specs.declared.Stand.TheVariants.{Busbar}
use Rattle.grid_level.specs.VoltageLevel.{VoltageLevel}
use Rattle.grid_level.specs.Passing.{nodes, placed_at}
use Rattle.grid_structure.specs.Network.{Network}
use Rattle.grid_structure.specs.Sites.{level_named}
use Rattle.grid_placed.specs.Places.{PlacesFit}
use Rattle.grid_placed.specs.Translation.{bus_terminal, translated_level}
use Rattle.grid_json.specs.declared.buses.BusLevelDraft.{BusLevelDraft}
use Rattle.grid_json.specs.declared.network.AnyLevelDraft.{AnyLevelDraft}
use Rattle.grid_json.specs.declared.network.AnyLevelDraft.TheVariants.{Nodes, Buses}
use Rattle.grid_json.specs.declared.network.SubstationDraft.{SubstationDraft}
use Rattle.grid_json.specs.declared.network.NetworkDraft.{NetworkDraft}
use Rattle.grid_json.specs.Loading.{network_load, next_node}
use Rattle.grid_shaped.specs.Drafts.{outlets_of, placed_level}

-- of each level with configured buses of the draft, with its substation
abbrev pub AtLevel : (SubstationDraft → BusLevelDraft → Type 0) → SubstationDraft → AnyLevelDraft → Type 0
AtLevel P substation (Nodes level) = Unit {0}
AtLevel P substation (Buses level) = P substation level

abbrev pub AtEach : NetworkDraft → (SubstationDraft → BusLevelDraft → Type 0) → Type 0
AtEach draft P = All (λ (substation : SubstationDraft). All (AtLevel P substation) substation.levels) draft.substations

-- ---- the shape

-- the level of its id is the translated level of its placed level, whose places are those of buses
pub record IsShaped (draft : NetworkDraft) (net : Network) (substation : SubstationDraft) (level : BusLevelDraft) : Type 0 where
  pub stands : level_named net level.id ≡ Some (translated_level (placed_level draft substation level))
  pub fits : PlacesFit (placed_level draft substation level)

abbrev pub LoadIsShaped : Type 0
LoadIsShaped = (draft : NetworkDraft) (net : Network) → network_load draft ≡ Ok net → AtEach draft (IsShaped draft net)

-- ---- nodes

-- the level as it stands: each bus at the node of its position, and all nodes in a row
pub record IsCounted (draft : NetworkDraft) (net : Network) (substation : SubstationDraft) (level : BusLevelDraft) : Type 0 where
  pub loaded : VoltageLevel
  pub stands : level_named net level.id ≡ Some loaded
  pub buses : (i : ℕ) (bus : List ℕ) → slice_get level.buses i ≡ Some bus → placed_at loaded i ≡ Some (record { node = i; terminal = bus_terminal bus; stand = Busbar })
  pub nodes_are : nodes loaded ≡ places (length level.buses + length (outlets_of draft substation level))
  pub next : next_node net level.id ≡ length level.buses + length (outlets_of draft substation level)

abbrev pub BusesAreCounted : Type 0
BusesAreCounted = (draft : NetworkDraft) (net : Network) → network_load draft ≡ Ok net → AtEach draft (IsCounted draft net)
