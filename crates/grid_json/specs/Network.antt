-- The network of a job and its parts, member by member, in the order in which they are read.
use Rattle.std.specs.Prelude.{ℕ, List, [], ◌∷◌, Bool, true, false, if◌then◌else◌, Result, Ok, Err, codes, decimal, is_some}
use Rattle.serde_json.specs.Data.{Data, Items, no_items, item}
use Rattle.serde_json.specs.Find.{get, as_array}
use Rattle.grid_kinds.specs.declared.Injection.{Injection}
use Rattle.grid_kinds.specs.declared.Injection.TheVariants as items
use Rattle.grid_structure.specs.declared.End.{End}
use Rattle.grid_json.specs.declared.fault.Fault.{Fault}
use Rattle.grid_json.specs.declared.fault.Reason.TheVariants.{WrongKind}
use Rattle.grid_json.specs.declared.format.Format.{Format}
use Rattle.grid_json.specs.declared.format.Format.TheVariants as formats
use Rattle.grid_json.specs.declared.kinds.InjectionKind.{InjectionKind}
use Rattle.grid_json.specs.declared.kinds.InjectionKind.TheVariants as injections
use Rattle.grid_json.specs.declared.kinds.Topology.{Topology}
use Rattle.grid_json.specs.declared.kinds.Topology.TheVariants as topologies
use Rattle.grid_json.specs.declared.kinds.WindingsKind.{WindingsKind}
use Rattle.grid_json.specs.declared.kinds.WindingsKind.TheVariants as windings
use Rattle.grid_json.specs.declared.ends.Two.{Two}
use Rattle.grid_json.specs.declared.ends.Three.{Three}
use Rattle.grid_json.specs.declared.network.BusbarDraft.{BusbarDraft}
use Rattle.grid_json.specs.declared.network.SwitchDraft.{SwitchDraft}
use Rattle.grid_json.specs.declared.network.InternalDraft.{InternalDraft}
use Rattle.grid_json.specs.declared.network.InjectionDraft.{InjectionDraft}
use Rattle.grid_json.specs.declared.network.LevelDraft.{LevelDraft}
use Rattle.grid_json.specs.declared.buses.BusSwitch.{BusSwitch}
use Rattle.grid_json.specs.declared.buses.BusInjection.{BusInjection}
use Rattle.grid_json.specs.declared.buses.BusEnd.{BusEnd}
use Rattle.grid_json.specs.declared.buses.BusLevelDraft.{BusLevelDraft}
use Rattle.grid_json.specs.declared.buses.EndDraft.{EndDraft}
use Rattle.grid_json.specs.declared.buses.EndDraft.TheVariants as ends
use Rattle.grid_json.specs.declared.network.AnyLevelDraft.{AnyLevelDraft}
use Rattle.grid_json.specs.declared.network.AnyLevelDraft.TheVariants as levels
use Rattle.grid_json.specs.declared.network.TransformerDraft.{TransformerDraft}
use Rattle.grid_json.specs.declared.network.Windings.{Windings}
use Rattle.grid_json.specs.declared.network.Windings.TheVariants as shapes
use Rattle.grid_json.specs.declared.network.LineDraft.{LineDraft}
use Rattle.grid_json.specs.declared.network.SubstationDraft.{SubstationDraft}
use Rattle.grid_json.specs.declared.network.NetworkDraft.{NetworkDraft}
use Rattle.grid_json.specs.Reading.{◌>>=◌, or_fault, here, under, whole_at, flag_at, id_at, array_at, member_at, member_or, optional_at, only_at, object_at}
use Rattle.grid_json.specs.Kinds.{switch_kind_at, injection_kind_at, topology_at, windings_kind_at}

-- ---- arrays of two and of three

unfoldable pub both : {A : Type 0} → (Data → Result A Fault) → Data → Data → Result (Two A) Fault
both read a b = do
  first ← under (decimal 0) (read a)
  second ← under (decimal 1) (read b)
  Ok (record { first = first; second = second })

unfoldable pub two_of : {A : Type 0} → (Data → Result A Fault) → Items → Result (Two A) Fault
two_of read no_items = Err (here WrongKind)
two_of read (item a no_items) = Err (here WrongKind)
two_of read (item a (item b no_items)) = both read a b
two_of read (item a (item b (item c rest))) = Err (here WrongKind)

-- an array of two items; another length is of the wrong kind, before its items are looked at
abbrev pub two_at : {A : Type 0} → (Data → Result A Fault) → Data → Result (Two A) Fault
two_at read d = or_fault WrongKind (as_array d) >>= two_of read

unfoldable pub all_three : {A : Type 0} → (Data → Result A Fault) → Data → Data → Data → Result (Three A) Fault
all_three read a b c = do
  first ← under (decimal 0) (read a)
  second ← under (decimal 1) (read b)
  third ← under (decimal 2) (read c)
  Ok (record { first = first; second = second; third = third })

unfoldable pub three_of : {A : Type 0} → (Data → Result A Fault) → Items → Result (Three A) Fault
three_of read no_items = Err (here WrongKind)
three_of read (item a no_items) = Err (here WrongKind)
three_of read (item a (item b no_items)) = Err (here WrongKind)
three_of read (item a (item b (item c no_items))) = all_three read a b c
three_of read (item a (item b (item c (item d rest)))) = Err (here WrongKind)

abbrev pub three_at : {A : Type 0} → (Data → Result A Fault) → Data → Result (Three A) Fault
three_at read d = or_fault WrongKind (as_array d) >>= three_of read

unfoldable pub end_at : Data → Result End Fault
end_at d = do
  _ ← only_at (codes "level" ∷ codes "node" ∷ []) d
  level ← member_at id_at (codes "level") d
  node ← member_at whole_at (codes "node") d
  Ok (record { level = level; node = node })

-- ---- ends of branches by bus

-- levels with configured buses, and ends at such buses, came with the fifth format
abbrev pub has_buses : Format → Bool
has_buses formats.One = false
has_buses formats.Two = false
has_buses formats.Three = false
has_buses formats.Four = false
has_buses formats.Five = true

-- an end is connected where it doesn't say
unfoldable pub bus_end_at : Data → Result BusEnd Fault
bus_end_at d = do
  _ ← only_at (codes "level" ∷ codes "bus" ∷ codes "connected" ∷ []) d
  level ← member_at id_at (codes "level") d
  bus ← member_at id_at (codes "bus") d
  connected ← member_or true flag_at (codes "connected") d
  Ok (record { level = level; bus = bus; connected = connected })

-- an end is by bus where it has the member `bus`, and else by node
unfoldable pub either_end_at : Data → Result EndDraft Fault
either_end_at d =
    if is_some (get (codes "bus") d) then (bus_end_at d >>= λ end. Ok (ends.Bus end))
    else (end_at d >>= λ end. Ok (ends.Node end))

unfoldable pub end_draft_at : Format → Data → Result EndDraft Fault
end_draft_at format d = if has_buses format then either_end_at d else (end_at d >>= λ end. Ok (ends.Node end))

-- ---- the parts of a level

unfoldable pub busbar_at : Data → Result BusbarDraft Fault
busbar_at d = do
  _ ← only_at (codes "id" ∷ codes "node" ∷ []) d
  id ← member_at id_at (codes "id") d
  node ← member_at whole_at (codes "node") d
  Ok (record { id = id; node = node })

abbrev pub switch_names : List (List ℕ)
switch_names = codes "id" ∷ codes "kind" ∷ codes "node1" ∷ codes "node2" ∷ codes "open" ∷ codes "retained" ∷ codes "fictitious" ∷ []

-- a flag that is absent is false
unfoldable pub switch_at : Format → Data → Result SwitchDraft Fault
switch_at format d = do
  _ ← only_at switch_names d
  id ← member_at id_at (codes "id") d
  kind ← member_at (switch_kind_at format) (codes "kind") d
  node1 ← member_at whole_at (codes "node1") d
  node2 ← member_at whole_at (codes "node2") d
  opened ← member_or false flag_at (codes "open") d
  retained ← member_or false flag_at (codes "retained") d
  fictitious ← member_or false flag_at (codes "fictitious") d
  Ok (record { id = id; kind = kind; node1 = node1; node2 = node2; opened = opened; retained = retained; fictitious = fictitious })

unfoldable pub internal_at : Data → Result InternalDraft Fault
internal_at d = do
  _ ← only_at (codes "node1" ∷ codes "node2" ∷ []) d
  node1 ← member_at whole_at (codes "node1") d
  node2 ← member_at whole_at (codes "node2") d
  Ok (record { node1 = node1; node2 = node2 })

-- the fields of each kind of injections
abbrev pub item_names : InjectionKind → List (List ℕ)
item_names injections.Load = codes "p0" ∷ codes "q0" ∷ []
item_names injections.Generator = codes "target_p" ∷ codes "target_v" ∷ codes "min_p" ∷ codes "max_p" ∷ []
item_names injections.Battery = codes "target_p" ∷ codes "target_q" ∷ codes "min_p" ∷ codes "max_p" ∷ []
item_names injections.ShuntCompensator = codes "section_count" ∷ codes "max_sections" ∷ []
item_names injections.StaticVarCompensator = codes "target_q" ∷ []
item_names injections.ConverterStation = codes "target_q" ∷ []

abbrev pub injection_names : InjectionKind → List (List ℕ)
injection_names kind = codes "kind" ∷ codes "id" ∷ codes "node" ∷ item_names kind

unfoldable pub item_at : InjectionKind → Data → Result Injection Fault
item_at injections.Load d = do
  p0 ← member_at whole_at (codes "p0") d
  q0 ← member_at whole_at (codes "q0") d
  Ok (items.Load p0 q0)
item_at injections.Generator d = do
  target_p ← member_at whole_at (codes "target_p") d
  target_v ← member_at whole_at (codes "target_v") d
  min_p ← member_at whole_at (codes "min_p") d
  max_p ← member_at whole_at (codes "max_p") d
  Ok (items.Generator target_p target_v min_p max_p)
item_at injections.Battery d = do
  target_p ← member_at whole_at (codes "target_p") d
  target_q ← member_at whole_at (codes "target_q") d
  min_p ← member_at whole_at (codes "min_p") d
  max_p ← member_at whole_at (codes "max_p") d
  Ok (items.Battery target_p target_q min_p max_p)
item_at injections.ShuntCompensator d = do
  section_count ← member_at whole_at (codes "section_count") d
  max_sections ← member_at whole_at (codes "max_sections") d
  Ok (items.ShuntCompensator section_count max_sections)
item_at injections.StaticVarCompensator d = do
  target_q ← member_at whole_at (codes "target_q") d
  Ok (items.StaticVarCompensator target_q)
item_at injections.ConverterStation d = do
  target_q ← member_at whole_at (codes "target_q") d
  Ok (items.ConverterStation target_q)

-- the kind chooses the other members, so it is read first
unfoldable pub injection_at : Format → Data → Result InjectionDraft Fault
injection_at format d = do
  _ ← object_at d
  kind ← member_at (injection_kind_at format) (codes "kind") d
  _ ← only_at (injection_names kind) d
  id ← member_at id_at (codes "id") d
  node ← member_at whole_at (codes "node") d
  read ← item_at kind d
  Ok (record { id = id; node = node; item = read })

abbrev pub level_names : List (List ℕ)
level_names = codes "id" ∷ codes "nominal_v" ∷ codes "low_v" ∷ codes "high_v" ∷ codes "busbars" ∷ codes "switches" ∷ codes "internal" ∷ codes "injections" ∷ []

unfoldable pub level_members_at : Format → Data → Result LevelDraft Fault
level_members_at format d = do
  id ← member_at id_at (codes "id") d
  nominal_v ← member_at whole_at (codes "nominal_v") d
  low_v ← optional_at whole_at (codes "low_v") d
  high_v ← optional_at whole_at (codes "high_v") d
  busbars ← member_or [] (array_at busbar_at) (codes "busbars") d
  switches ← member_or [] (array_at (switch_at format)) (codes "switches") d
  internals ← member_or [] (array_at internal_at) (codes "internal") d
  injections ← member_or [] (array_at (injection_at format)) (codes "injections") d
  Ok (record { id = id; nominal_v = nominal_v; low_v = low_v; high_v = high_v; busbars = busbars; switches = switches; internals = internals; injections = injections })

-- a level that does not say how its parts are joined: by nodes
unfoldable pub level_at : Format → Data → Result LevelDraft Fault
level_at format d = do
  _ ← only_at level_names d
  level_members_at format d

-- ---- levels with configured buses

-- a switch between two configured buses
unfoldable pub bus_switch_at : Data → Result BusSwitch Fault
bus_switch_at d = do
  _ ← only_at (codes "id" ∷ codes "bus1" ∷ codes "bus2" ∷ codes "open" ∷ []) d
  id ← member_at id_at (codes "id") d
  bus1 ← member_at id_at (codes "bus1") d
  bus2 ← member_at id_at (codes "bus2") d
  opened ← member_or false flag_at (codes "open") d
  Ok (record { id = id; bus1 = bus1; bus2 = bus2; opened = opened })

abbrev pub bus_injection_names : InjectionKind → List (List ℕ)
bus_injection_names kind = codes "kind" ∷ codes "id" ∷ codes "bus" ∷ codes "connected" ∷ item_names kind

-- an injection is connected where it doesn't say
unfoldable pub bus_injection_at : Format → Data → Result BusInjection Fault
bus_injection_at format d = do
  _ ← object_at d
  kind ← member_at (injection_kind_at format) (codes "kind") d
  _ ← only_at (bus_injection_names kind) d
  id ← member_at id_at (codes "id") d
  bus ← member_at id_at (codes "bus") d
  connected ← member_or true flag_at (codes "connected") d
  read ← item_at kind d
  Ok (record { id = id; bus = bus; connected = connected; item = read })

abbrev pub bus_level_names : List (List ℕ)
bus_level_names = codes "topology" ∷ codes "id" ∷ codes "nominal_v" ∷ codes "low_v" ∷ codes "high_v" ∷ codes "buses" ∷ codes "switches" ∷ codes "injections" ∷ []

unfoldable pub bus_level_at : Format → Data → Result BusLevelDraft Fault
bus_level_at format d = do
  _ ← only_at bus_level_names d
  id ← member_at id_at (codes "id") d
  nominal_v ← member_at whole_at (codes "nominal_v") d
  low_v ← optional_at whole_at (codes "low_v") d
  high_v ← optional_at whole_at (codes "high_v") d
  buses ← member_or [] (array_at id_at) (codes "buses") d
  switches ← member_or [] (array_at bus_switch_at) (codes "switches") d
  injections ← member_or [] (array_at (bus_injection_at format)) (codes "injections") d
  Ok (record { id = id; nominal_v = nominal_v; low_v = low_v; high_v = high_v; buses = buses; switches = switches; injections = injections })

-- a level that may say how its parts are joined
unfoldable pub level_by : Topology → Format → Data → Result AnyLevelDraft Fault
level_by topologies.Nodes format d = do
  _ ← only_at (codes "topology" ∷ level_names) d
  level ← level_members_at format d
  Ok (levels.Nodes level)
level_by topologies.Buses format d = do
  level ← bus_level_at format d
  Ok (levels.Buses level)

-- the topology chooses the other members, so it is read first; a level is of nodes where it doesn't say
unfoldable pub either_level_at : Format → Data → Result AnyLevelDraft Fault
either_level_at format d = do
  topology ← member_or topologies.Nodes (topology_at format) (codes "topology") d
  level_by topology format d

unfoldable pub any_level_at : Format → Data → Result AnyLevelDraft Fault
any_level_at format d = if has_buses format then either_level_at format d else (level_at format d >>= λ level. Ok (levels.Nodes level))

-- ---- branches

unfoldable pub windings_at : Format → WindingsKind → Data → Result Windings Fault
windings_at format windings.Two d = do
  ends ← member_at (two_at (end_draft_at format)) (codes "ends") d
  rated_u ← member_at (two_at whole_at) (codes "rated_u") d
  Ok (shapes.Two ends rated_u)
windings_at format windings.Three d = do
  ends ← member_at (three_at (end_draft_at format)) (codes "ends") d
  rated_u ← member_at (three_at whole_at) (codes "rated_u") d
  Ok (shapes.Three ends rated_u)

unfoldable pub transformer_at : Format → Data → Result TransformerDraft Fault
transformer_at format d = do
  _ ← object_at d
  kind ← member_at (windings_kind_at format) (codes "kind") d
  _ ← only_at (codes "kind" ∷ codes "id" ∷ codes "ends" ∷ codes "rated_u" ∷ []) d
  id ← member_at id_at (codes "id") d
  read ← windings_at format kind d
  Ok (record { id = id; windings = read })

unfoldable pub line_at : Format → Data → Result LineDraft Fault
line_at format d = do
  _ ← only_at (codes "id" ∷ codes "ends" ∷ []) d
  id ← member_at id_at (codes "id") d
  ends ← member_at (two_at (end_draft_at format)) (codes "ends") d
  Ok (record { id = id; ends = ends })

-- ---- the network

unfoldable pub substation_at : Format → Data → Result SubstationDraft Fault
substation_at format d = do
  _ ← only_at (codes "id" ∷ codes "levels" ∷ codes "transformers" ∷ []) d
  id ← member_at id_at (codes "id") d
  levels ← member_or [] (array_at (any_level_at format)) (codes "levels") d
  transformers ← member_or [] (array_at (transformer_at format)) (codes "transformers") d
  Ok (record { id = id; levels = levels; transformers = transformers })

unfoldable pub network_at : Format → Data → Result NetworkDraft Fault
network_at format d = do
  _ ← only_at (codes "id" ∷ codes "substations" ∷ codes "lines" ∷ []) d
  id ← member_at id_at (codes "id") d
  substations ← member_or [] (array_at (substation_at format)) (codes "substations") d
  lines ← member_or [] (array_at (line_at format)) (codes "lines") d
  Ok (record { id = id; substations = substations; lines = lines })
