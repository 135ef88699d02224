-- Networks as lists of their parts, without the places of the ends of branches: what the edits of such lists make.
use Rattle.std.specs.Prelude.{◌≡◌, ℕ, pos, List, [], ◌∷◌, ◌++◌, map, flat_map, Result, Ok, Err}
use Rattle.grid_level.specs.declared.Stand.{Stand}
use Rattle.grid_level.specs.declared.Stand.TheVariants.{Busbar, Feeder, BranchEnd}
use Rattle.grid_level.specs.declared.Switch.{Switch}
use Rattle.grid_level.specs.declared.Internal.{Internal}
use Rattle.grid_level.specs.VoltageLevel.{VoltageLevel}
use Rattle.grid_structure.specs.declared.NamedBranch.{NamedBranch}
use Rattle.grid_structure.specs.declared.lists.BusbarAt.{BusbarAt}
use Rattle.grid_structure.specs.declared.lists.SwitchBetween.{SwitchBetween}
use Rattle.grid_structure.specs.declared.lists.InternalBetween.{InternalBetween}
use Rattle.grid_structure.specs.declared.lists.InjectionAt.{InjectionAt}
use Rattle.grid_structure.specs.declared.lists.LevelLists.{LevelLists}
use Rattle.grid_structure.specs.declared.lists.SubstationLists.{SubstationLists}
use Rattle.grid_structure.specs.declared.lists.NetworkLists.{NetworkLists}
use Rattle.grid_structure.specs.declared.Edit.{Edit}
use Rattle.grid_structure.specs.declared.Edit.TheVariants as edits
use Rattle.grid_structure.specs.declared.EditFault.{EditFault}
use Rattle.grid_structure.specs.declared.ApplyFault.{ApplyFault}
use Rattle.grid_structure.specs.Network.{Network, Substation, empty_of}
use Rattle.grid_structure.specs.Editing.{IsTold}
use Rattle.grid_structure.specs.Soundness.{IsSound}
use Rattle.grid_structure.specs.Loading.{apply_each, branch_edit}

-- the edits were all made, or their first refusal is told
abbrev pub IsMade : Network → List Edit → Network → Result (Unit {0}) ApplyFault → Type 0
IsMade before all after (Ok _) = apply_each before all ≡ Ok after
IsMade before all after (Err fault) = IsTold (apply_each before all) fault

-- ---- the edits of lists

-- each part's one edit, within what owns it
abbrev pub each_listed : {A : Type 0} → (List ℕ → A → Edit) → List ℕ → List A → List Edit
each_listed edit owner parts = flat_map (λ part. edit owner part ∷ []) parts

abbrev pub busbar_listed : List ℕ → BusbarAt → Edit
busbar_listed level b = edits.AddBusbar b.id level b.node

abbrev pub switch_listed : List ℕ → SwitchBetween → Edit
switch_listed level s = edits.AddSwitch s.id level s.kind s.node1 s.node2 s.opened s.retained s.fictitious

abbrev pub internal_listed : List ℕ → InternalBetween → Edit
internal_listed level i = edits.AddInternal level i.node1 i.node2

abbrev pub injection_listed : List ℕ → InjectionAt → Edit
injection_listed level i = edits.AddInjection i.id level i.node i.item

-- the level, then its busbar sections, switches, internal connections and injections
unfoldable pub level_listed : List ℕ → LevelLists → List Edit
level_listed substation l =
    edits.AddLevel l.id substation l.nominal_v l.low_v l.high_v
    ∷ (each_listed busbar_listed l.id l.busbars
    ++ (each_listed switch_listed l.id l.switches
    ++ (each_listed internal_listed l.id l.internals
    ++ each_listed injection_listed l.id l.injections)))

-- a branch says itself where it stands
abbrev pub branch_listed : List ℕ → NamedBranch → Edit
branch_listed owner b = branch_edit b

-- the substation, then its levels, then its transformers
unfoldable pub substation_listed : SubstationLists → List Edit
substation_listed s = edits.AddSubstation s.id ∷ (flat_map (level_listed s.id) s.levels ++ each_listed branch_listed s.id s.transformers)

-- the substations, then the lines
unfoldable pub network_listed : NetworkLists → List Edit
network_listed n = flat_map substation_listed n.substations ++ each_listed branch_listed n.id n.lines

-- what the edits of these lists make of nothing, or the first refusal
unfoldable pub listed : NetworkLists → Result Network EditFault
listed n = apply_each (empty_of n.id) (network_listed n)

-- ---- the lists of a network

-- the busbar section that stands at a node, where one does
abbrev pub busbar_shown : List ℕ → ℕ → Stand → List BusbarAt
busbar_shown id node Busbar = record { id = id; node = pos node } ∷ []
busbar_shown id node (Feeder item) = []
busbar_shown id node BranchEnd = []

abbrev pub switch_shown : Switch → SwitchBetween
switch_shown s = record { id = s.id; kind = s.kind; node1 = pos s.node1; node2 = pos s.node2; opened = s.opened; retained = s.retained; fictitious = s.fictitious }

abbrev pub internal_shown : Internal → InternalBetween
internal_shown i = record { node1 = pos i.node1; node2 = pos i.node2 }

-- the injection that stands at a node, where one does
abbrev pub injection_shown : List ℕ → ℕ → Stand → List InjectionAt
injection_shown id node Busbar = []
injection_shown id node (Feeder item) = record { id = id; node = pos node; item = item } ∷ []
injection_shown id node BranchEnd = []

abbrev pub level_shown : VoltageLevel → LevelLists
level_shown l = record {
  id = l.id;
  nominal_v = l.nominal_v;
  low_v = l.low_v;
  high_v = l.high_v;
  busbars = flat_map (λ p. busbar_shown p.terminal.equipment p.node p.stand) l.placed;
  switches = map switch_shown l.switches;
  internals = map internal_shown l.internals;
  injections = flat_map (λ p. injection_shown p.terminal.equipment p.node p.stand) l.placed;
}

abbrev pub substation_shown : Substation → SubstationLists
substation_shown s = record { id = s.id; levels = map level_shown s.levels; transformers = s.transformers }

-- the network's parts; the ends of its branches are where the branches say
abbrev pub network_shown : Network → NetworkLists
network_shown net = record { id = net.id; substations = map substation_shown net.substations; lines = net.lines }

-- the lists of a sound network make that network
abbrev pub ListsAreLoaded : Type 0
ListsAreLoaded = (net : Network) → IsSound net → listed (network_shown net) ≡ Ok net
