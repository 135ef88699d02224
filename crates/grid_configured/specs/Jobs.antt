-- A job with configured buses, or its first fault: each member in the order in which it is read.
use Rattle.std.specs.Prelude.{◌≡◌, ℕ, ℤ, pos, true, false, length, map, List, [], ◌∷◌, Option, Some, None, Result, Ok, Err, codes, if◌then◌else◌, ⊤}
use Rattle.std.specs.Ordering.{int_eq}
use Rattle.serde_json.specs.Data.{Data}
use Rattle.grid_requests.specs.declared.request.Request.{Request}
use Rattle.grid_requests.specs.declared.request.Request.TheVariants as requests
use Rattle.grid_json.specs.declared.fault.Fault.{Fault}
use Rattle.grid_json.specs.declared.fault.Reason.TheVariants.{Unknown, Reserved, TooManyWorkers}
use Rattle.grid_json.specs.declared.format.Format.TheVariants.{Four}
use Rattle.grid_json.specs.declared.whole.JobFault.{JobFault}
use Rattle.grid_json.specs.declared.whole.JobFault.TheVariants.{BadJson}
use Rattle.grid_value.specs.Bytes.{reading}
use Rattle.grid_json.specs.Reading.{◌>>=◌, here, under, whole_at, flag_at, id_at, array_at, member_at, member_or, optional_at, only_at, object_at, word_at}
use Rattle.grid_json.specs.Kinds.{injection_kind_at}
use Rattle.grid_json.specs.Network.{two_at, bus_injection_names, item_at}
use Rattle.grid_json.specs.Job.{max_workers, few_at, counted_scripts, is_order, natural_of, order_at}
use Rattle.grid_json.specs.Whole.{or_bad_job}
use Rattle.grid_configured.specs.declared.commands.Verb.{Verb}
use Rattle.grid_configured.specs.declared.commands.Verb.TheVariants as verbs
use Rattle.grid_configured.specs.declared.parts.PlainEnd.{PlainEnd}
use Rattle.grid_json.specs.declared.buses.BusSwitch.{BusSwitch}
use Rattle.grid_json.specs.declared.buses.BusInjection.{BusInjection}
use Rattle.grid_configured.specs.declared.network.ConfiguredLine.{ConfiguredLine}
use Rattle.grid_configured.specs.declared.network.ConfiguredLevel.{ConfiguredLevel}
use Rattle.grid_configured.specs.declared.network.ConfiguredNetwork.{ConfiguredNetwork}
use Rattle.grid_configured.specs.declared.network.ConfiguredJob.{ConfiguredJob}
use Rattle.grid_configured.specs.Names.{is_plain}
use Rattle.grid_configured.specs.Checks.{network_check}

-- ---- ids

abbrev pub plain_or_reserved : List ℕ → Result (List ℕ) Fault
plain_or_reserved id = if is_plain id then Ok id else Err (here Reserved)

-- an id, which must be plain
unfoldable pub plain_at : Data → Result (List ℕ) Fault
plain_at d = id_at d >>= plain_or_reserved

-- ---- the parts of a level

unfoldable pub bus_switch_at : Data → Result BusSwitch Fault
bus_switch_at d = do
  _ ← only_at (codes "id" ∷ codes "bus1" ∷ codes "bus2" ∷ codes "open" ∷ []) d
  id ← member_at plain_at (codes "id") d
  bus1 ← member_at plain_at (codes "bus1") d
  bus2 ← member_at plain_at (codes "bus2") d
  opened ← member_at flag_at (codes "open") d
  Ok (record { id = id; bus1 = bus1; bus2 = bus2; opened = opened })

-- the kind chooses the other members, so it is read first; all kinds of the fourth format are known
unfoldable pub injection_at : Data → Result BusInjection Fault
injection_at d = do
  _ ← object_at d
  kind ← member_at (injection_kind_at Four) (codes "kind") d
  _ ← only_at (bus_injection_names kind) d
  id ← member_at plain_at (codes "id") d
  bus ← member_at plain_at (codes "bus") d
  connected ← member_at flag_at (codes "connected") d
  injected ← item_at kind d
  Ok (record { id = id; bus = bus; connected = connected; item = injected })

abbrev pub level_names : List (List ℕ)
level_names = codes "id" ∷ codes "nominal_v" ∷ codes "buses" ∷ codes "switches" ∷ codes "injections" ∷ []

unfoldable pub level_at : Data → Result ConfiguredLevel Fault
level_at d = do
  _ ← only_at level_names d
  id ← member_at plain_at (codes "id") d
  nominal_v ← member_at whole_at (codes "nominal_v") d
  buses ← member_at (array_at plain_at) (codes "buses") d
  switches ← member_at (array_at bus_switch_at) (codes "switches") d
  items ← member_at (array_at injection_at) (codes "injections") d
  Ok (record { id = id; nominal_v = nominal_v; buses = buses; switches = switches; items = items })

-- ---- lines

unfoldable pub end_at : Data → Result PlainEnd Fault
end_at d = do
  _ ← only_at (codes "level" ∷ codes "bus" ∷ codes "connected" ∷ []) d
  level ← member_at plain_at (codes "level") d
  bus ← member_at plain_at (codes "bus") d
  connected ← member_at flag_at (codes "connected") d
  Ok (record { end = record { level = level; bus = bus; connected = connected } })

unfoldable pub line_at : Data → Result ConfiguredLine Fault
line_at d = do
  _ ← only_at (codes "id" ∷ codes "ends" ∷ []) d
  id ← member_at plain_at (codes "id") d
  ends ← member_at (two_at end_at) (codes "ends") d
  Ok (record { id = id; end1 = ends.first.end; end2 = ends.second.end })

-- ---- the network

unfoldable pub network_at : Data → Result ConfiguredNetwork Fault
network_at d = do
  _ ← only_at (codes "id" ∷ codes "levels" ∷ codes "lines" ∷ []) d
  id ← member_at plain_at (codes "id") d
  levels ← member_at (array_at level_at) (codes "levels") d
  lines ← member_at (array_at line_at) (codes "lines") d
  Ok (record { id = id; levels = levels; lines = lines })

-- ---- commands

abbrev pub verb_words : List (List ℕ × Verb)
verb_words =
    (codes "use", verbs.Use) ∷ (codes "remove", verbs.Remove) ∷ (codes "open", verbs.Open) ∷ (codes "close", verbs.Close)
    ∷ (codes "connect", verbs.Connect) ∷ (codes "disconnect", verbs.Disconnect) ∷ (codes "bus_view", verbs.BusView) ∷ (codes "clone", verbs.Clone) ∷ []

abbrev pub command_names : Verb → List (List ℕ)
command_names verbs.Use = codes "do" ∷ codes "variant" ∷ []
command_names verbs.Remove = codes "do" ∷ codes "variant" ∷ []
command_names verbs.Open = codes "do" ∷ codes "switch" ∷ []
command_names verbs.Close = codes "do" ∷ codes "switch" ∷ []
command_names verbs.Connect = codes "do" ∷ codes "equipment" ∷ codes "side" ∷ []
command_names verbs.Disconnect = codes "do" ∷ codes "equipment" ∷ codes "side" ∷ []
command_names verbs.BusView = codes "do" ∷ codes "level" ∷ []
command_names verbs.Clone = codes "do" ∷ codes "from" ∷ codes "to" ∷ codes "overwrite" ∷ []

-- a request made of the one id of a command
unfoldable pub named_at : List ℕ → (List ℕ → Request) → Data → Result Request Fault
named_at name made d = do
  id ← member_at plain_at name d
  Ok (made id)

-- the side is 1 where it is absent
unfoldable pub sided_at : (List ℕ → ℤ → Request) → Data → Result Request Fault
sided_at made d = do
  equipment ← member_at plain_at (codes "equipment") d
  side ← member_or (pos 1) whole_at (codes "side") d
  Ok (made equipment side)

-- the flag is false where it is absent
unfoldable pub clone_at : Data → Result Request Fault
clone_at d = do
  from ← member_at plain_at (codes "from") d
  to ← member_at plain_at (codes "to") d
  overwrite ← member_or false flag_at (codes "overwrite") d
  Ok (requests.CloneVariant from to overwrite)

unfoldable pub request_at : Verb → Data → Result Request Fault
request_at verbs.Use d = named_at (codes "variant") requests.UseVariant d
request_at verbs.Remove d = named_at (codes "variant") requests.RemoveVariant d
request_at verbs.Open d = named_at (codes "switch") requests.OpenSwitch d
request_at verbs.Close d = named_at (codes "switch") requests.CloseSwitch d
request_at verbs.Connect d = sided_at requests.Connect d
request_at verbs.Disconnect d = sided_at requests.Disconnect d
request_at verbs.BusView d = named_at (codes "level") requests.BusView d
request_at verbs.Clone d = clone_at d

-- the verb chooses the other members, so it is read first
unfoldable pub command_at : Data → Result Request Fault
command_at d = do
  _ ← object_at d
  verb ← member_at (word_at verb_words) (codes "do") d
  _ ← only_at (command_names verb) d
  request_at verb d

-- ---- the job

-- the first format is the only one
abbrev pub first_format : ℤ → Result ⊤ Fault
first_format number = if int_eq number (pos 1) then Ok tt else Err (here Unknown)

unfoldable pub format_at : Data → Result ⊤ Fault
format_at d = whole_at d >>= first_format

unfoldable pub workers_at : Data → Result (List (List Request)) Fault
workers_at d = few_at max_workers TooManyWorkers (array_at command_at) d >>= counted_scripts

-- an order that is given has each worker's number as often as its script has commands, and no other number
abbrev pub IsOrdered : List (List Request) → Option (List ℕ) → Type 0
IsOrdered scripts None = Unit {0}
IsOrdered scripts (Some order) = (numbers : List ℤ) × (is_order (map length scripts) numbers ≡ true) × (order ≡ map natural_of numbers)

-- all members are read, and then the network is checked
unfoldable pub configured_at : Data → Result ConfiguredJob Fault
configured_at d = do
  _ ← only_at (codes "format" ∷ codes "configured" ∷ codes "workers" ∷ codes "order" ∷ []) d
  _ ← member_at format_at (codes "format") d
  network ← member_at network_at (codes "configured") d
  scripts ← member_or [] workers_at (codes "workers") d
  order ← optional_at (order_at scripts) (codes "order") d
  _ ← under (codes "configured") (network_check network)
  Ok (record { network = network; scripts = scripts; order = order })

abbrev pub configured_job_in : Option Data → Result ConfiguredJob JobFault
configured_job_in None = Err BadJson
configured_job_in (Some d) = or_bad_job (configured_at d)

-- BadJson where the bytes spell no JSON value, else the first fault with its place, else the job
unfoldable pub configured_job_of : List ℕ → Result ConfiguredJob JobFault
configured_job_of bytes = configured_job_in (reading bytes)
