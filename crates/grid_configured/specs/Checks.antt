-- What a network with configured buses must keep: each thing behind the earlier ones, with the first reason against it.
use Rattle.std.specs.Prelude.{◌≡◌, ℕ, suc, ◌+◌, Bool, ◌&&◌, not, nat_le, Option, None, List, [], ◌∷◌, ◌++◌, length, map, find, Result, Ok, codes, decimal, ⊤, IsTrue, sum_by, count_by, flat_map}
use Rattle.grid_ids.specs.Name.{same_id, has_id}
use Rattle.grid_ids.specs.Refusing.{refuse_if, refuse_by, found_or}
use Rattle.grid_kinds.specs.declared.CheckFault.{CheckFault}
use Rattle.grid_kinds.specs.Records.{level_fault, injection_fault}
use Rattle.grid_level.specs.LevelEdits.{max_nodes, max_edges}
use Rattle.grid_structure.specs.declared.EditFault.TheVariants as refusals
use Rattle.grid_structure.specs.Editing.{max_levels, max_switches}
use Rattle.grid_json.specs.declared.fault.Fault.{Fault}
use Rattle.grid_json.specs.declared.fault.Reason.TheVariants.{Load, NoBus, SameBus}
use Rattle.grid_json.specs.Reading.{◌>>=◌, here, under}
use Rattle.grid_json.specs.declared.buses.BusSwitch.{BusSwitch}
use Rattle.grid_json.specs.declared.buses.BusInjection.{BusInjection}
use Rattle.grid_json.specs.declared.buses.BusEnd.{BusEnd}
use Rattle.grid_configured.specs.declared.network.ConfiguredLine.{ConfiguredLine}
use Rattle.grid_configured.specs.declared.network.ConfiguredLevel.{ConfiguredLevel}
use Rattle.grid_configured.specs.declared.network.ConfiguredNetwork.{ConfiguredNetwork}
use Rattle.grid_configured.specs.Names.{network_plain}

-- ---- lists of things

-- each thing in order behind the earlier ones, with its position before the place of a fault
unfoldable pub each_check : {A : Type 0} → (List A → A → Result ⊤ Fault) → List A → ℕ → List A → Result ⊤ Fault
each_check check earlier i [] = Ok tt
each_check check earlier i (x ∷ rest) = under (decimal i) (check earlier x) >>= λ _. each_check check (earlier ++ x ∷ []) (suc i) rest

-- all things of the list that stands under a name
abbrev pub list_check : {A : Type 0} → (List A → A → Result ⊤ Fault) → List ℕ → List A → Result ⊤ Fault
list_check check name xs = under name (each_check check [] 0 xs)

-- ---- the one name space: levels, buses, switches, injections and lines

abbrev pub switch_ids : List BusSwitch → List (List ℕ)
switch_ids switches = map (λ s. s.id) switches

abbrev pub item_ids : List BusInjection → List (List ℕ)
item_ids items = map (λ t. t.id) items

abbrev pub line_ids : List ConfiguredLine → List (List ℕ)
line_ids lines = map (λ l. l.id) lines

-- the ids of what stands in a level
abbrev pub part_ids : ConfiguredLevel → List (List ℕ)
part_ids l = l.buses ++ (switch_ids l.switches ++ item_ids l.items)

-- the ids of a level and of what stands in it
unfoldable pub level_ids : ConfiguredLevel → List (List ℕ)
level_ids l = l.id ∷ part_ids l

abbrev pub ids_of : List ConfiguredLevel → List (List ℕ)
ids_of levels = flat_map level_ids levels

-- ---- counts: a bus is one node; a switch is one edge; a terminal is one node, one edge and one switch

unfoldable pub level_nodes : ConfiguredLevel → ℕ
level_nodes l = length l.buses + length l.items

unfoldable pub level_edges : ConfiguredLevel → ℕ
level_edges l = length l.switches + length l.items

-- each edge has one switch
abbrev pub switch_total : List ConfiguredLevel → ℕ
switch_total levels = sum_by level_edges levels

-- ---- reasons in order, by what holds of a thing

-- another thing has the id
unfoldable pub id_reasons : Bool → Result ⊤ Fault
id_reasons taken = refuse_if taken (here (Load refusals.IdTaken))

-- one more terminal in a level with so many nodes and edges, of a network with so many switches
unfoldable pub terminal_reasons : ℕ → ℕ → ℕ → Result ⊤ Fault
terminal_reasons nodes edges switches = do
  _ ← refuse_if (nat_le max_nodes nodes) (here (Load refusals.TooManyNodes))
  _ ← refuse_if (nat_le max_edges edges) (here (Load refusals.TooManyEdges))
  refuse_if (nat_le max_switches switches) (here (Load refusals.TooManySwitches))

abbrev pub record_fault : CheckFault → Fault
record_fault fault = here (Load (refusals.Check fault))

-- one more level in a network with so many levels
unfoldable pub level_reasons : Bool → ℕ → Option CheckFault → Result ⊤ Fault
level_reasons taken levels fault = do
  _ ← id_reasons taken
  _ ← refuse_if (nat_le max_levels levels) (here (Load refusals.TooManyLevels))
  refuse_by record_fault fault

-- one more bus in a level with so many nodes
unfoldable pub bus_reasons : Bool → ℕ → Result ⊤ Fault
bus_reasons taken nodes = do
  _ ← id_reasons taken
  refuse_if (nat_le max_nodes nodes) (here (Load refusals.TooManyNodes))

-- the buses of a switch: both are there or not, and are one or not
unfoldable pub buses_reasons : Bool → Bool → Result ⊤ Fault
buses_reasons there same = do
  _ ← refuse_if (not there) (here NoBus)
  refuse_if same (here SameBus)

-- one more switch in a level with so many edges, of a network with so many switches
unfoldable pub switch_reasons : Bool → Bool → Bool → ℕ → ℕ → Result ⊤ Fault
switch_reasons taken there same edges switches = do
  _ ← id_reasons taken
  _ ← buses_reasons there same
  _ ← refuse_if (nat_le max_edges edges) (here (Load refusals.TooManyEdges))
  refuse_if (nat_le max_switches switches) (here (Load refusals.TooManySwitches))

-- one more injection: its bus is there or not
unfoldable pub item_reasons : Bool → Bool → Option CheckFault → ℕ → ℕ → ℕ → Result ⊤ Fault
item_reasons taken there fault nodes edges switches = do
  _ ← id_reasons taken
  _ ← refuse_if (not there) (here NoBus)
  _ ← refuse_by record_fault fault
  terminal_reasons nodes edges switches

-- one more end of a line: its bus is there or not
unfoldable pub end_reasons : Bool → ℕ → ℕ → ℕ → Result ⊤ Fault
end_reasons there nodes edges switches = do
  _ ← refuse_if (not there) (here NoBus)
  terminal_reasons nodes edges switches

-- ---- a level: itself, then its buses, its switches and its injections

-- a bus of a level, where other things have these ids
unfoldable pub bus_check : List (List ℕ) → List (List ℕ) → List ℕ → Result ⊤ Fault
bus_check ids earlier bus = bus_reasons (has_id (ids ++ earlier) bus) (length earlier)

-- a switch of a level with these buses, where the network has so many switches before it
unfoldable pub switch_check : List (List ℕ) → List (List ℕ) → ℕ → List BusSwitch → BusSwitch → Result ⊤ Fault
switch_check ids buses switches earlier s =
    switch_reasons (has_id (ids ++ switch_ids earlier) s.id) (has_id buses s.bus1 && has_id buses s.bus2) (same_id s.bus1 s.bus2) (length earlier) (switches + length earlier)

-- an injection of a level with these buses, where level and network have so many nodes, edges and switches before all injections
unfoldable pub item_check : List (List ℕ) → List (List ℕ) → ℕ → ℕ → ℕ → List BusInjection → BusInjection → Result ⊤ Fault
item_check ids buses nodes edges switches earlier t =
    item_reasons (has_id (ids ++ item_ids earlier) t.id) (has_id buses t.bus) (injection_fault t.item) (nodes + length earlier) (edges + length earlier) (switches + length earlier)

-- the buses, then the switches, then the injections of a level, where it and other things have these ids, and the network has so many switches before it
unfoldable pub parts_check : List (List ℕ) → ℕ → ConfiguredLevel → Result ⊤ Fault
parts_check ids switches l = do
  _ ← list_check (bus_check ids) (codes "buses") l.buses
  _ ← list_check (switch_check (ids ++ l.buses) l.buses switches) (codes "switches") l.switches
  list_check (item_check (ids ++ (l.buses ++ switch_ids l.switches)) l.buses (length l.buses) (length l.switches) (switches + length l.switches)) (codes "injections") l.items

unfoldable pub level_check : List ConfiguredLevel → ConfiguredLevel → Result ⊤ Fault
level_check earlier l = do
  _ ← level_reasons (has_id (ids_of earlier) l.id) (length earlier) (level_fault l.nominal_v None None)
  parts_check (ids_of earlier ++ l.id ∷ []) (switch_total earlier) l

-- ---- a line: its id, then its ends

-- the level of an id
unfoldable pub level_of : List ConfiguredLevel → List ℕ → Option ConfiguredLevel
level_of levels id = find (λ l. same_id id l.id) levels

-- how many of these ends are in the level of an id
unfoldable pub ends_in : List ℕ → List BusEnd → ℕ
ends_in id ends = count_by (λ e. same_id id e.level) ends

abbrev pub line_ends : List ConfiguredLine → List BusEnd
line_ends lines = flat_map (λ l. l.end1 ∷ l.end2 ∷ []) lines

-- an end of a line behind the earlier ends of all lines
unfoldable pub end_check : List ConfiguredLevel → List BusEnd → BusEnd → Result ⊤ Fault
end_check levels earlier e = do
  level ← found_or (level_of levels e.level) (here (Load refusals.NoLevel))
  end_reasons (has_id level.buses e.bus) (level_nodes level + ends_in e.level earlier) (level_edges level + ends_in e.level earlier) (switch_total levels + length earlier)

unfoldable pub line_check : List ConfiguredLevel → List ConfiguredLine → ConfiguredLine → Result ⊤ Fault
line_check levels earlier line = do
  _ ← id_reasons (has_id (ids_of levels ++ line_ids earlier) line.id)
  _ ← end_check levels (line_ends earlier) line.end1
  end_check levels (line_ends earlier ++ line.end1 ∷ []) line.end2

-- ---- the network

-- the levels, then the lines: there is no fault, or the first one with its place
unfoldable pub network_check : ConfiguredNetwork → Result ⊤ Fault
network_check n = do
  _ ← list_check level_check (codes "levels") n.levels
  list_check (line_check n.levels) (codes "lines") n.lines

-- what a network must keep so that it can be translated
abbrev pub IsTranslatable : ConfiguredNetwork → Type 0
IsTranslatable network = IsTrue (network_plain network) × (network_check network ≡ Ok tt)
