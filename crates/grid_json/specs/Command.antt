-- Commands: the verb is read first, and it says which members there are.
use Rattle.std.specs.Prelude.{ℕ, ℤ, pos, List, [], ◌∷◌, ◌++◌, map, false, nat_le, if◌then◌else◌, Result, Ok, Err, codes, ⊤}
use Rattle.serde_json.specs.Data.{Data}
use Rattle.grid_structure.specs.declared.End.{End}
use Rattle.grid_structure.specs.declared.Branch.{Branch}
use Rattle.grid_structure.specs.declared.Branch.TheVariants as shapes
use Rattle.grid_structure.specs.declared.Edit.{Edit}
use Rattle.grid_structure.specs.declared.Edit.TheVariants as edits
use Rattle.grid_requests.specs.declared.request.Request.{Request}
use Rattle.grid_requests.specs.declared.request.Request.TheVariants as requests
use Rattle.grid_json.specs.declared.fault.Fault.{Fault}
use Rattle.grid_json.specs.declared.fault.Reason.TheVariants.{Unknown}
use Rattle.grid_json.specs.declared.format.Format.{Format}
use Rattle.grid_json.specs.declared.kinds.BranchKind.{BranchKind}
use Rattle.grid_json.specs.declared.kinds.BranchKind.TheVariants as branches
use Rattle.grid_json.specs.declared.ends.Two.{Two}
use Rattle.grid_json.specs.declared.ends.Three.{Three}
use Rattle.grid_json.specs.declared.command.EditVerb.{EditVerb}
use Rattle.grid_json.specs.declared.command.EditVerb.TheVariants as edit_verbs
use Rattle.grid_json.specs.declared.command.Verb.{Verb}
use Rattle.grid_json.specs.declared.command.Verb.TheVariants as verbs
use Rattle.grid_json.specs.Reading.{◌>>=◌, here, whole_at, flag_at, id_at, member_at, member_or, optional_at, only_at, object_at, word_at}
use Rattle.grid_json.specs.Formats.{number_of}
use Rattle.grid_json.specs.Kinds.{switch_kind_at, injection_kind_at, branch_kind_at}
use Rattle.grid_json.specs.Network.{two_at, three_at, end_at, item_names, item_at}

-- ---- verbs

-- the words that ask for no edit
abbrev pub plain_words : List (List ℕ × Verb)
plain_words =
    (codes "use", verbs.Use) ∷ (codes "remove", verbs.Remove) ∷ (codes "open", verbs.Open) ∷ (codes "close", verbs.Close)
    ∷ (codes "retain", verbs.Retain) ∷ (codes "set_power", verbs.SetPower) ∷ (codes "totals", verbs.Totals) ∷ (codes "connect", verbs.Connect) ∷ (codes "disconnect", verbs.Disconnect)
    ∷ (codes "bus_breaker_view", verbs.BusBreakerView) ∷ (codes "bus_view", verbs.BusView) ∷ (codes "components", verbs.Components)
    ∷ (codes "clone", verbs.Clone) ∷ []

abbrev pub edit_words : List (List ℕ × EditVerb)
edit_words =
    (codes "add_substation", edit_verbs.AddSubstation) ∷ (codes "add_level", edit_verbs.AddLevel) ∷ (codes "add_busbar", edit_verbs.AddBusbar)
    ∷ (codes "add_switch", edit_verbs.AddSwitch) ∷ (codes "remove_switch", edit_verbs.RemoveSwitch) ∷ (codes "remove_equipment", edit_verbs.RemoveEquipment)
    ∷ (codes "add_internal", edit_verbs.AddInternal) ∷ (codes "remove_internal", edit_verbs.RemoveInternal) ∷ (codes "add_injection", edit_verbs.AddInjection)
    ∷ (codes "add_branch", edit_verbs.AddBranch) ∷ []

abbrev pub verb_words : List (List ℕ × Verb)
verb_words = plain_words ++ map (λ w. (w.0, verbs.Change w.1)) edit_words

-- the number of the format that the word of a verb came with
abbrev pub verb_format : Verb → ℕ
verb_format verbs.Retain = 2
verb_format verbs.SetPower = 3
verb_format verbs.Totals = 3
verb_format other = 1

abbrev pub known_verb : Format → Verb → Result Verb Fault
known_verb format verb = if nat_le (verb_format verb) (number_of format) then Ok verb else Err (here Unknown)

abbrev pub verb_at : Format → Data → Result Verb Fault
verb_at format d = word_at verb_words d >>= known_verb format

-- ---- the verbs of requests

abbrev pub edit_verb_of : Edit → EditVerb
edit_verb_of (edits.AddSubstation id) = edit_verbs.AddSubstation
edit_verb_of (edits.AddLevel id substation nominal_v low_v high_v) = edit_verbs.AddLevel
edit_verb_of (edits.AddBusbar id level node) = edit_verbs.AddBusbar
edit_verb_of (edits.AddSwitch id level kind node1 node2 opened retained fictitious) = edit_verbs.AddSwitch
edit_verb_of (edits.RemoveSwitch id) = edit_verbs.RemoveSwitch
edit_verb_of (edits.AddInternal level node1 node2) = edit_verbs.AddInternal
edit_verb_of (edits.RemoveInternal level node1 node2) = edit_verbs.RemoveInternal
edit_verb_of (edits.AddInjection id level node item) = edit_verbs.AddInjection
edit_verb_of (edits.AddBranch id shape) = edit_verbs.AddBranch
edit_verb_of (edits.RemoveEquipment id) = edit_verbs.RemoveEquipment

abbrev pub verb_of : Request → Verb
verb_of (requests.UseVariant name) = verbs.Use
verb_of (requests.OpenSwitch id) = verbs.Open
verb_of (requests.CloseSwitch id) = verbs.Close
verb_of (requests.RetainSwitch id retained) = verbs.Retain
verb_of (requests.SetPower id watts) = verbs.SetPower
verb_of requests.Totals = verbs.Totals
verb_of (requests.Connect id side) = verbs.Connect
verb_of (requests.Disconnect id side) = verbs.Disconnect
verb_of (requests.BusBreakerView level) = verbs.BusBreakerView
verb_of (requests.BusView level) = verbs.BusView
verb_of (requests.Components level) = verbs.Components
verb_of (requests.CloneVariant from to overwrite) = verbs.Clone
verb_of (requests.RemoveVariant name) = verbs.Remove
verb_of (requests.Change edit) = verbs.Change (edit_verb_of edit)

-- ---- the members of a command

abbrev pub switch_edit_names : List (List ℕ)
switch_edit_names = codes "id" ∷ codes "level" ∷ codes "kind" ∷ codes "node1" ∷ codes "node2" ∷ codes "open" ∷ codes "retained" ∷ codes "fictitious" ∷ []

abbrev pub verb_names : Verb → List (List ℕ)
verb_names verbs.Use = codes "variant" ∷ []
verb_names verbs.Remove = codes "variant" ∷ []
verb_names verbs.Open = codes "switch" ∷ []
verb_names verbs.Close = codes "switch" ∷ []
verb_names verbs.Retain = codes "switch" ∷ codes "retained" ∷ []
verb_names verbs.SetPower = codes "equipment" ∷ codes "watts" ∷ []
verb_names verbs.Totals = []
verb_names verbs.Connect = codes "equipment" ∷ codes "side" ∷ []
verb_names verbs.Disconnect = codes "equipment" ∷ codes "side" ∷ []
verb_names verbs.BusBreakerView = codes "level" ∷ []
verb_names verbs.BusView = codes "level" ∷ []
verb_names verbs.Components = codes "level" ∷ []
verb_names verbs.Clone = codes "from" ∷ codes "to" ∷ codes "overwrite" ∷ []
verb_names (verbs.Change edit_verbs.AddSubstation) = codes "id" ∷ []
verb_names (verbs.Change edit_verbs.AddLevel) = codes "id" ∷ codes "substation" ∷ codes "nominal_v" ∷ codes "low_v" ∷ codes "high_v" ∷ []
verb_names (verbs.Change edit_verbs.AddBusbar) = codes "id" ∷ codes "level" ∷ codes "node" ∷ []
verb_names (verbs.Change edit_verbs.AddSwitch) = switch_edit_names
verb_names (verbs.Change edit_verbs.RemoveSwitch) = codes "id" ∷ []
verb_names (verbs.Change edit_verbs.RemoveEquipment) = codes "id" ∷ []
verb_names (verbs.Change edit_verbs.AddInternal) = codes "level" ∷ codes "node1" ∷ codes "node2" ∷ []
verb_names (verbs.Change edit_verbs.RemoveInternal) = codes "level" ∷ codes "node1" ∷ codes "node2" ∷ []
-- these two have a kind, which chooses the rest
verb_names (verbs.Change edit_verbs.AddInjection) = []
verb_names (verbs.Change edit_verbs.AddBranch) = []

abbrev pub command_names : Verb → List (List ℕ)
command_names verb = codes "do" ∷ verb_names verb

-- ---- edits

unfoldable pub add_level_at : Data → Result Edit Fault
add_level_at d = do
  id ← member_at id_at (codes "id") d
  substation ← member_at id_at (codes "substation") d
  nominal_v ← member_at whole_at (codes "nominal_v") d
  low_v ← optional_at whole_at (codes "low_v") d
  high_v ← optional_at whole_at (codes "high_v") d
  Ok (edits.AddLevel id substation nominal_v low_v high_v)

unfoldable pub add_busbar_at : Data → Result Edit Fault
add_busbar_at d = do
  id ← member_at id_at (codes "id") d
  level ← member_at id_at (codes "level") d
  node ← member_at whole_at (codes "node") d
  Ok (edits.AddBusbar id level node)

unfoldable pub add_switch_at : Format → Data → Result Edit Fault
add_switch_at format d = do
  id ← member_at id_at (codes "id") d
  level ← member_at id_at (codes "level") d
  kind ← member_at (switch_kind_at format) (codes "kind") d
  node1 ← member_at whole_at (codes "node1") d
  node2 ← member_at whole_at (codes "node2") d
  opened ← member_or false flag_at (codes "open") d
  retained ← member_or false flag_at (codes "retained") d
  fictitious ← member_or false flag_at (codes "fictitious") d
  Ok (edits.AddSwitch id level kind node1 node2 opened retained fictitious)

unfoldable pub add_internal_at : Data → Result Edit Fault
add_internal_at d = do
  level ← member_at id_at (codes "level") d
  node1 ← member_at whole_at (codes "node1") d
  node2 ← member_at whole_at (codes "node2") d
  Ok (edits.AddInternal level node1 node2)

unfoldable pub remove_internal_at : Data → Result Edit Fault
remove_internal_at d = do
  level ← member_at id_at (codes "level") d
  node1 ← member_at whole_at (codes "node1") d
  node2 ← member_at whole_at (codes "node2") d
  Ok (edits.RemoveInternal level node1 node2)

unfoldable pub add_injection_at : Format → Data → Result Edit Fault
add_injection_at format d = do
  kind ← member_at (injection_kind_at format) (codes "kind") d
  _ ← only_at (codes "do" ∷ codes "kind" ∷ codes "id" ∷ codes "level" ∷ codes "node" ∷ item_names kind) d
  id ← member_at id_at (codes "id") d
  level ← member_at id_at (codes "level") d
  node ← member_at whole_at (codes "node") d
  item ← item_at kind d
  Ok (edits.AddInjection id level node item)

-- ---- branches

abbrev pub line_of : Two End → Branch
line_of ends = shapes.Line ends.first ends.second

abbrev pub two_windings_of : List ℕ → Two End → Two ℤ → Branch
two_windings_of substation ends rated = shapes.TwoWindings substation ends.first ends.second rated.first rated.second

abbrev pub three_windings_of : List ℕ → Three End → Three ℤ → Branch
three_windings_of substation ends rated =
    shapes.ThreeWindings substation ends.first ends.second ends.third rated.first rated.second rated.third

abbrev pub branch_names : BranchKind → List (List ℕ)
branch_names branches.Line = codes "do" ∷ codes "kind" ∷ codes "id" ∷ codes "ends" ∷ []
branch_names branches.TwoWindings = codes "do" ∷ codes "kind" ∷ codes "id" ∷ codes "ends" ∷ codes "substation" ∷ codes "rated_u" ∷ []
branch_names branches.ThreeWindings = codes "do" ∷ codes "kind" ∷ codes "id" ∷ codes "ends" ∷ codes "substation" ∷ codes "rated_u" ∷ []

unfoldable pub shape_at : BranchKind → Data → Result Branch Fault
shape_at branches.Line d = do
  ends ← member_at (two_at end_at) (codes "ends") d
  Ok (line_of ends)
shape_at branches.TwoWindings d = do
  ends ← member_at (two_at end_at) (codes "ends") d
  substation ← member_at id_at (codes "substation") d
  rated ← member_at (two_at whole_at) (codes "rated_u") d
  Ok (two_windings_of substation ends rated)
shape_at branches.ThreeWindings d = do
  ends ← member_at (three_at end_at) (codes "ends") d
  substation ← member_at id_at (codes "substation") d
  rated ← member_at (three_at whole_at) (codes "rated_u") d
  Ok (three_windings_of substation ends rated)

unfoldable pub add_branch_at : Format → Data → Result Edit Fault
add_branch_at format d = do
  kind ← member_at (branch_kind_at format) (codes "kind") d
  _ ← only_at (branch_names kind) d
  id ← member_at id_at (codes "id") d
  shape ← shape_at kind d
  Ok (edits.AddBranch id shape)

-- ---- commands

abbrev pub changed : Result Edit Fault → Result Request Fault
changed (Ok edit) = Ok (requests.Change edit)
changed (Err fault) = Err fault

unfoldable pub clone_at : Data → Result Request Fault
clone_at d = do
  from ← member_at id_at (codes "from") d
  to ← member_at id_at (codes "to") d
  overwrite ← member_or false flag_at (codes "overwrite") d
  Ok (requests.CloneVariant from to overwrite)

unfoldable pub retain_at : Data → Result Request Fault
retain_at d = do
  switch ← member_at id_at (codes "switch") d
  retained ← member_at flag_at (codes "retained") d
  Ok (requests.RetainSwitch switch retained)

unfoldable pub set_power_at : Data → Result Request Fault
set_power_at d = do
  equipment ← member_at id_at (codes "equipment") d
  watts ← member_at whole_at (codes "watts") d
  Ok (requests.SetPower equipment watts)

-- the side is 1 where it is absent
unfoldable pub sided_at : (List ℕ → ℤ → Request) → Data → Result Request Fault
sided_at made d = do
  equipment ← member_at id_at (codes "equipment") d
  side ← member_or (pos 1) whole_at (codes "side") d
  Ok (made equipment side)

-- a value made of the one id of a command
unfoldable pub named_at : {A : Type 0} → List ℕ → (List ℕ → A) → Data → Result A Fault
named_at name made d = do
  id ← member_at id_at name d
  Ok (made id)

unfoldable pub edit_at : Format → EditVerb → Data → Result Edit Fault
edit_at format edit_verbs.AddSubstation d = named_at (codes "id") edits.AddSubstation d
edit_at format edit_verbs.AddLevel d = add_level_at d
edit_at format edit_verbs.AddBusbar d = add_busbar_at d
edit_at format edit_verbs.AddSwitch d = add_switch_at format d
edit_at format edit_verbs.RemoveSwitch d = named_at (codes "id") edits.RemoveSwitch d
edit_at format edit_verbs.RemoveEquipment d = named_at (codes "id") edits.RemoveEquipment d
edit_at format edit_verbs.AddInternal d = add_internal_at d
edit_at format edit_verbs.RemoveInternal d = remove_internal_at d
edit_at format edit_verbs.AddInjection d = add_injection_at format d
edit_at format edit_verbs.AddBranch d = add_branch_at format d

unfoldable pub request_at : Format → Verb → Data → Result Request Fault
request_at format verbs.Use d = named_at (codes "variant") requests.UseVariant d
request_at format verbs.Remove d = named_at (codes "variant") requests.RemoveVariant d
request_at format verbs.Open d = named_at (codes "switch") requests.OpenSwitch d
request_at format verbs.Close d = named_at (codes "switch") requests.CloseSwitch d
request_at format verbs.Retain d = retain_at d
request_at format verbs.SetPower d = set_power_at d
request_at format verbs.Totals d = Ok requests.Totals
request_at format verbs.Connect d = sided_at requests.Connect d
request_at format verbs.Disconnect d = sided_at requests.Disconnect d
request_at format verbs.BusBreakerView d = named_at (codes "level") requests.BusBreakerView d
request_at format verbs.BusView d = named_at (codes "level") requests.BusView d
request_at format verbs.Components d = named_at (codes "level") requests.Components d
request_at format verbs.Clone d = clone_at d
request_at format (verbs.Change edit) d = changed (edit_at format edit d)

-- the members of the verbs that have no kind
abbrev pub plain_names : Verb → Data → Result ⊤ Fault
plain_names (verbs.Change edit_verbs.AddInjection) d = Ok tt
plain_names (verbs.Change edit_verbs.AddBranch) d = Ok tt
plain_names verb d = only_at (command_names verb) d

unfoldable pub command_at : Format → Data → Result Request Fault
command_at format d = do
  _ ← object_at d
  verb ← member_at (verb_at format) (codes "do") d
  _ ← plain_names verb d
  request_at format verb d
