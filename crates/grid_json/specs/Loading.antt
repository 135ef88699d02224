-- The second pass: the network's loading edits, one after the other, and the first that is refused at the place of its object.
use Rattle.std.specs.Prelude.{◌≡◌, ℕ, ℤ, pos, suc, ◌+◌, Bool, true, false, not, ◌&&◌, ◌||◌, nat_lt, if◌then◌else◌, List, [], ◌∷◌, length, find, Option, Some, None, Result, Ok, Err, decimal, codes, ⊤}
use Rattle.std.specs.Option.{option_map}
use Rattle.grid_ids.specs.Name.{same_id, has_id}
use Rattle.grid_kinds.specs.declared.SwitchKind.TheVariants.{Breaker}
use Rattle.grid_level.specs.declared.Placed.{Placed}
use Rattle.grid_level.specs.VoltageLevel.{VoltageLevel}
use Rattle.grid_level.specs.Passing.{nodes, is_busbar}
use Rattle.grid_placed.specs.Translation.{breaker_id}
use Rattle.grid_structure.specs.declared.End.{End}
use Rattle.grid_structure.specs.declared.Branch.{Branch}
use Rattle.grid_structure.specs.declared.Edit.{Edit}
use Rattle.grid_structure.specs.declared.Edit.TheVariants as edits
use Rattle.grid_structure.specs.declared.EditFault.{EditFault}
use Rattle.grid_structure.specs.declared.EditFault.TheVariants.{IdTaken}
use Rattle.grid_structure.specs.declared.ApplyFault.{ApplyFault}
use Rattle.grid_structure.specs.declared.ApplyFault.TheVariants as applied
use Rattle.grid_structure.specs.Network.{Network, empty_of}
use Rattle.grid_structure.specs.Sites.{find_level, level_named}
use Rattle.grid_structure.specs.Editing.{apply}
use Rattle.grid_json.specs.declared.fault.Fault.{Fault}
use Rattle.grid_json.specs.declared.fault.Reason.{Reason}
use Rattle.grid_json.specs.declared.fault.Reason.TheVariants.{NoBus, SameBus, NoNode, LongAtBus, BreakerTaken, Load}
use Rattle.grid_json.specs.declared.fault.ReadError.{ReadError}
use Rattle.grid_json.specs.declared.fault.ReadError.TheVariants as errors
use Rattle.grid_json.specs.declared.network.BusbarDraft.{BusbarDraft}
use Rattle.grid_json.specs.declared.network.SwitchDraft.{SwitchDraft}
use Rattle.grid_json.specs.declared.network.InternalDraft.{InternalDraft}
use Rattle.grid_json.specs.declared.network.InjectionDraft.{InjectionDraft}
use Rattle.grid_json.specs.declared.network.LevelDraft.{LevelDraft}
use Rattle.grid_json.specs.declared.buses.BusSwitch.{BusSwitch}
use Rattle.grid_json.specs.declared.buses.BusInjection.{BusInjection}
use Rattle.grid_json.specs.declared.buses.BusLevelDraft.{BusLevelDraft}
use Rattle.grid_json.specs.declared.buses.EndDraft.{EndDraft}
use Rattle.grid_json.specs.declared.buses.EndDraft.TheVariants as ends
use Rattle.grid_json.specs.declared.network.AnyLevelDraft.{AnyLevelDraft}
use Rattle.grid_json.specs.declared.network.AnyLevelDraft.TheVariants.{Nodes, Buses}
use Rattle.grid_json.specs.declared.loader.Loader.{Loader}
use Rattle.grid_json.specs.declared.ends.Two.{Two}
use Rattle.grid_json.specs.declared.ends.Three.{Three}
use Rattle.grid_json.specs.declared.network.TransformerDraft.{TransformerDraft}
use Rattle.grid_json.specs.declared.network.Windings.{Windings}
use Rattle.grid_json.specs.declared.network.Windings.TheVariants as shapes
use Rattle.grid_json.specs.declared.network.LineDraft.{LineDraft}
use Rattle.grid_json.specs.declared.network.SubstationDraft.{SubstationDraft}
use Rattle.grid_json.specs.declared.network.NetworkDraft.{NetworkDraft}
use Rattle.grid_json.specs.Reading.{◌>>=◌, Fails, or_fault, here, under}
use Rattle.grid_json.specs.Command.{line_of, two_windings_of, three_windings_of}

-- what a load answered is what the definition gives, unless memory ran out
abbrev pub Leads : {S : Type 0} → S → Result (Unit {0}) ReadError → Result S Fault → Type 0
Leads new (Ok _) wanted = wanted ≡ Ok new
Leads new (Err e) wanted = Fails e wanted

-- what an edit answered, told as a fault at the thing itself
abbrev pub Answers : Result (Unit {0}) ReadError → Result (Unit {0}) ApplyFault → Type 0
Answers (Ok _) (Ok _) = Unit {0}
Answers (Ok _) (Err fault) = ⊥
Answers (Err errors.Memory) answer = Unit {0}
Answers (Err (errors.Fault fault)) (Ok _) = ⊥
Answers (Err (errors.Fault fault)) (Err (applied.Refused refusal)) = fault ≡ here (Load refusal)
Answers (Err (errors.Fault fault)) (Err applied.Memory) = ⊥

abbrev pub is_taken : EditFault → Bool
is_taken IdTaken = true
is_taken fault = false

-- why the breaker of this side is refused
abbrev pub breaker_reason : ℕ → EditFault → Reason
breaker_reason side fault = if is_taken fault then BreakerTaken side else Load fault

-- the same of the edit that adds a breaker
abbrev pub BreakerAnswers : ℕ → Result (Unit {0}) ReadError → Result (Unit {0}) ApplyFault → Type 0
BreakerAnswers side (Ok _) (Ok _) = Unit {0}
BreakerAnswers side (Ok _) (Err fault) = ⊥
BreakerAnswers side (Err errors.Memory) answer = Unit {0}
BreakerAnswers side (Err (errors.Fault fault)) (Ok _) = ⊥
BreakerAnswers side (Err (errors.Fault fault)) (Err (applied.Refused refusal)) = fault ≡ here (breaker_reason side refusal)
BreakerAnswers side (Err (errors.Fault fault)) (Err applied.Memory) = ⊥

-- each part after the other, with its position before the place of a fault
unfoldable pub load_items : {A S : Type 0} → (A → List ℕ → S → Result S Fault) → ℕ → List A → List ℕ → S → Result S Fault
load_items load i [] owner s = Ok s
load_items load i (x ∷ xs) owner s = under (decimal i) (load x owner s) >>= load_items load (suc i) xs owner

-- the parts that stand under a name
abbrev pub load_member : {A S : Type 0} → (A → List ℕ → S → Result S Fault) → List ℕ → List A → List ℕ → S → Result S Fault
load_member load name xs owner s = under name (load_items load 0 xs owner s)

abbrev pub refused : {S : Type 0} → Result S EditFault → Result S Fault
refused (Ok s) = Ok s
refused (Err fault) = Err (here (Load fault))

-- one edit, whose refusal is a fault at the thing itself
abbrev pub edited : Edit → Network → Result Network Fault
edited edit net = refused (apply net edit)

unfoldable pub busbar_load : BusbarDraft → List ℕ → Network → Result Network Fault
busbar_load b level net = edited (edits.AddBusbar b.id level b.node) net

unfoldable pub switch_load : SwitchDraft → List ℕ → Network → Result Network Fault
switch_load s level net = edited (edits.AddSwitch s.id level s.kind s.node1 s.node2 s.opened s.retained s.fictitious) net

unfoldable pub internal_load : InternalDraft → List ℕ → Network → Result Network Fault
internal_load i level net = edited (edits.AddInternal level i.node1 i.node2) net

unfoldable pub injection_load : InjectionDraft → List ℕ → Network → Result Network Fault
injection_load i level net = edited (edits.AddInjection i.id level i.node i.item) net

-- ---- a level of nodes

-- the level, then its busbar sections, switches, internal connections and injections
unfoldable pub level_load : LevelDraft → List ℕ → Network → Result Network Fault
level_load l substation net = do
  made ← edited (edits.AddLevel l.id substation l.nominal_v l.low_v l.high_v) net
  with_busbars ← load_member busbar_load (codes "busbars") l.busbars l.id made
  with_switches ← load_member switch_load (codes "switches") l.switches l.id with_busbars
  with_internals ← load_member internal_load (codes "internal") l.internals l.id with_switches
  load_member injection_load (codes "injections") l.injections l.id with_internals

-- ---- the parts of a level with configured buses

-- Each bus of the list stands at the node of its place, as a busbar section.
unfoldable pub buses_load : ℕ → List (List ℕ) → List ℕ → Network → Result Network Fault
buses_load place [] level net = Ok net
buses_load place (bus ∷ buses) level net = under (decimal place) (edited (edits.AddBusbar bus level (pos place)) net) >>= buses_load (suc place) buses level

abbrev pub is_bus : List ℕ → Placed → Bool
is_bus bus p = is_busbar p.stand && same_id bus p.terminal.equipment

-- the place of a configured bus of a level that has such buses
unfoldable pub bus_place : VoltageLevel → List ℕ → Option ℕ
bus_place level bus = option_map (λ p. p.node) (find (is_bus bus) level.placed)

abbrev pub place_in : Option VoltageLevel → List ℕ → Option ℕ
place_in None bus = None
place_in (Some level) bus = bus_place level bus

-- the place of a bus of this level
unfoldable pub bus_at : Network → List ℕ → List ℕ → Result ℕ Fault
bus_at net level bus = or_fault NoBus (place_in (level_named net level) bus)

abbrev pub node_count : Option VoltageLevel → ℕ
node_count None = 0
node_count (Some level) = length (nodes level)

-- the next node of a level: how many it has
unfoldable pub next_node : Network → List ℕ → ℕ
next_node net level = node_count (level_named net level)

abbrev pub differing : List ℕ → List ℕ → Result ⊤ Fault
differing bus1 bus2 = if same_id bus1 bus2 then Err (here SameBus) else Ok tt

-- a switch between two buses is a breaker, and shows in the bus/breaker view
unfoldable pub bus_switch_load : BusSwitch → List ℕ → Network → Result Network Fault
bus_switch_load s level net = do
  place1 ← bus_at net level s.bus1
  place2 ← bus_at net level s.bus2
  _ ← differing s.bus1 s.bus2
  edited (edits.AddSwitch s.id level Breaker (pos place1) (pos place2) s.opened true false) net

-- whether what stands at a node, where something does, is a busbar section
abbrev pub is_busbar_at : Option Placed → Bool
is_busbar_at None = false
is_busbar_at (Some p) = is_busbar p.stand

-- ---- the breaker of a terminal at a bus

-- an id at a bus is so short that its breaker's is one
abbrev pub most_at_bus : ℕ
most_at_bus = 126

abbrev pub short_id : List ℕ → Result ⊤ Fault
short_id id = if nat_lt most_at_bus (length id) then Err (here LongAtBus) else Ok tt

-- what the edit that adds a breaker answered
abbrev pub breaker_told : {S : Type 0} → ℕ → Result S EditFault → Result S Fault
breaker_told side (Ok s) = Ok s
breaker_told side (Err fault) = Err (here (breaker_reason side fault))

-- A terminal's breaker stands between the bus and the terminal's node. It is open where the terminal is not connected.
unfoldable pub breaker_load : List ℕ → ℕ → List ℕ → ℕ → ℤ → Bool → Network → Result Network Fault
breaker_load id side level bus node connected net =
    breaker_told side (apply net (edits.AddSwitch (breaker_id (record { equipment = id; side = side })) level Breaker (pos bus) node (not connected) false false))

-- ---- injections at buses

-- the injection at the next node, then its breaker
unfoldable pub bus_injection_load : BusInjection → List ℕ → Network → Result Network Fault
bus_injection_load i level net = do
  bus ← bus_at net level i.bus
  _ ← short_id i.id
  let node : ℤ = pos (next_node net level)
  with_injection ← edited (edits.AddInjection i.id level node i.item) net
  breaker_load i.id 1 level bus node i.connected with_injection

-- ---- a level with configured buses

-- the level, then its buses, switches and injections
unfoldable pub bus_level_load : BusLevelDraft → List ℕ → Network → Result Network Fault
bus_level_load l substation net = do
  made ← edited (edits.AddLevel l.id substation l.nominal_v l.low_v l.high_v) net
  with_buses ← under (codes "buses") (buses_load 0 l.buses l.id made)
  with_switches ← load_member bus_switch_load (codes "switches") l.switches l.id with_buses
  load_member bus_injection_load (codes "injections") l.injections l.id with_switches

-- ---- networks of both kinds of levels

-- what is loaded so far, and which ids are those of levels with configured buses
pub record Loaded : Type 0 where
  pub network : Network
  pub bus_levels : List ℕ → Bool

-- what a loader is seen as
abbrev pub loaded_of : Loader → Loaded
loaded_of l = record { network = l.structure; bus_levels = λ q. has_id l.bus_levels q }

abbrev pub with_network : Loaded → Result Network Fault → Result Loaded Fault
with_network s (Ok net) = Ok (record { network = net; bus_levels = s.bus_levels })
with_network s (Err fault) = Err fault

abbrev pub with_bus_level : List ℕ → Loaded → Result Network Fault → Result Loaded Fault
with_bus_level id s (Ok net) = Ok (record { network = net; bus_levels = λ q. s.bus_levels q || same_id q id })
with_bus_level id s (Err fault) = Err fault

unfoldable pub any_level_load : AnyLevelDraft → List ℕ → Loaded → Result Loaded Fault
any_level_load (Nodes l) substation s = with_network s (level_load l substation s.network)
any_level_load (Buses l) substation s = with_bus_level l.id s (bus_level_load l substation s.network)

-- ---- the ends of branches

abbrev pub level_of : EndDraft → List ℕ
level_of (ends.Node e) = e.level
level_of (ends.Bus e) = e.level

-- an end in a level of which this says whether it has configured buses
abbrev pub end_fits : Bool → Network → EndDraft → Result ⊤ Fault
end_fits true net (ends.Bus e) = bus_at net e.level e.bus >>= λ _. Ok tt
end_fits true net (ends.Node e) = Err (here NoNode)
end_fits false net (ends.Bus e) = Err (here NoBus)
end_fits false net (ends.Node e) = Ok tt

-- an end in a level that is not loaded by then is left to the edit
abbrev pub end_fits_in : Option ℕ → Loaded → EndDraft → Result ⊤ Fault
end_fits_in None s e = Ok tt
end_fits_in (Some place) s e = end_fits (s.bus_levels (level_of e)) s.network e

unfoldable pub end_check : Loaded → EndDraft → Result ⊤ Fault
end_check s e = end_fits_in (find_level s.network (level_of e)) s e

abbrev pub is_by_bus : EndDraft → Bool
is_by_bus (ends.Node e) = false
is_by_bus (ends.Bus e) = true

-- the id of a branch, where one of its ends is by bus
abbrev pub short_where : Bool → List ℕ → Result ⊤ Fault
short_where true id = short_id id
short_where false id = Ok tt

unfoldable pub two_check : Loaded → List ℕ → Two EndDraft → Result ⊤ Fault
two_check s id two = do
  _ ← end_check s two.first
  _ ← end_check s two.second
  short_where (is_by_bus two.first || is_by_bus two.second) id

unfoldable pub three_check : Loaded → List ℕ → Three EndDraft → Result ⊤ Fault
three_check s id three = do
  _ ← end_check s three.first
  _ ← end_check s three.second
  _ ← end_check s three.third
  short_where (is_by_bus three.first || (is_by_bus three.second || is_by_bus three.third)) id

-- 1 where the end is by bus in this level, else 0
abbrev pub by_bus_in : List ℕ → EndDraft → ℕ
by_bus_in level (ends.Node e) = 0
by_bus_in level (ends.Bus e) = if same_id level e.level then 1 else 0

abbrev pub next_behind : Option VoltageLevel → ℕ → ℕ
next_behind None earlier = 0
next_behind (Some level) earlier = length (nodes level) + earlier

-- The end at its node. An end by bus has the next node of its level, and one more for each of this many earlier ends.
unfoldable pub placed_end : Network → ℕ → EndDraft → End
placed_end net earlier (ends.Node e) = e
placed_end net earlier (ends.Bus e) = record { level = e.level; node = pos (next_behind (level_named net e.level) earlier) }

unfoldable pub two_placed : Network → Two EndDraft → Two End
two_placed net two = record {
  first = placed_end net 0 two.first;
  second = placed_end net (by_bus_in (level_of two.second) two.first) two.second;
}

unfoldable pub three_placed : Network → Three EndDraft → Three End
three_placed net three = record {
  first = placed_end net 0 three.first;
  second = placed_end net (by_bus_in (level_of three.second) three.first) three.second;
  third = placed_end net (by_bus_in (level_of three.third) three.first + by_bus_in (level_of three.third) three.second) three.third;
}

-- the breaker of an end by bus, which stands at this node
unfoldable pub end_breaker : List ℕ → ℕ → EndDraft → ℤ → Network → Result Network Fault
end_breaker id side (ends.Node e) node net = Ok net
end_breaker id side (ends.Bus e) node net = do
  bus ← bus_at net e.level e.bus
  breaker_load id side e.level bus node e.connected net

unfoldable pub two_breakers : List ℕ → Two EndDraft → Two ℤ → Network → Result Network Fault
two_breakers id two nodes net = do
  with_first ← end_breaker id 1 two.first nodes.first net
  end_breaker id 2 two.second nodes.second with_first

unfoldable pub three_breakers : List ℕ → Three EndDraft → Three ℤ → Network → Result Network Fault
three_breakers id three nodes net = do
  with_first ← end_breaker id 1 three.first nodes.first net
  with_second ← end_breaker id 2 three.second nodes.second with_first
  end_breaker id 3 three.third nodes.third with_second

abbrev pub two_nodes : Two End → Two ℤ
two_nodes two = record { first = two.first.node; second = two.second.node }

abbrev pub three_nodes : Three End → Three ℤ
three_nodes three = record { first = three.first.node; second = three.second.node; third = three.third.node }

-- ---- branches

-- Both ends are looked at, then the id; then the branch is added, and then the breakers of its ends by bus.
unfoldable pub two_load : (Two End → Branch) → List ℕ → Two EndDraft → Loaded → Result Loaded Fault
two_load shape id two s = do
  _ ← two_check s id two
  let placed : Two End = two_placed s.network two
  added ← edited (edits.AddBranch id (shape placed)) s.network
  with_network s (two_breakers id two (two_nodes placed) added)

unfoldable pub three_load : (Three End → Branch) → List ℕ → Three EndDraft → Loaded → Result Loaded Fault
three_load shape id three s = do
  _ ← three_check s id three
  let placed : Three End = three_placed s.network three
  added ← edited (edits.AddBranch id (shape placed)) s.network
  with_network s (three_breakers id three (three_nodes placed) added)

abbrev pub windings_load : Windings → List ℕ → List ℕ → Loaded → Result Loaded Fault
windings_load (shapes.Two two rated) id substation s = two_load (λ placed. two_windings_of substation placed rated) id two s
windings_load (shapes.Three three rated) id substation s = three_load (λ placed. three_windings_of substation placed rated) id three s

unfoldable pub transformer_load : TransformerDraft → List ℕ → Loaded → Result Loaded Fault
transformer_load t substation s = windings_load t.windings t.id substation s

unfoldable pub line_load : LineDraft → List ℕ → Loaded → Result Loaded Fault
line_load l owner s = two_load line_of l.id l.ends s

-- ---- the network

-- the substation, then its levels, then its transformers
unfoldable pub substation_load : SubstationDraft → List ℕ → Loaded → Result Loaded Fault
substation_load s owner before = do
  made ← with_network before (edited (edits.AddSubstation s.id) before.network)
  with_levels ← load_member any_level_load (codes "levels") s.levels s.id made
  load_member transformer_load (codes "transformers") s.transformers s.id with_levels

-- the substations, then the lines
unfoldable pub parts_load : NetworkDraft → Loaded → Result Loaded Fault
parts_load n before = do
  with_substations ← load_member substation_load (codes "substations") n.substations n.id before
  load_member line_load (codes "lines") n.lines n.id with_substations

abbrev pub nothing_of : List ℕ → Loaded
nothing_of id = record { network = empty_of id; bus_levels = λ q. false }

-- the network of a draft
unfoldable pub network_load : NetworkDraft → Result Network Fault
network_load n = under (codes "network") (parts_load n (nothing_of n.id)) >>= λ all. Ok all.network
