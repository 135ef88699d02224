-- Commands as JSON: the verb, then its members.
use Rattle.std.specs.Prelude.{ℕ, ℤ, List, [], ◌∷◌, ◌++◌, codes, Bool, Option}
use Rattle.serde_json.specs.Data.{Data, boolean, string}
use Rattle.grid_kinds.specs.declared.Injection.{Injection}
use Rattle.grid_structure.specs.declared.Branch.{Branch}
use Rattle.grid_structure.specs.declared.Branch.TheVariants.{Line, TwoWindings, ThreeWindings}
use Rattle.grid_structure.specs.declared.Edit.{Edit}
use Rattle.grid_structure.specs.declared.Edit.TheVariants.{AddSubstation, AddLevel, AddBusbar, AddSwitch, RemoveSwitch, AddInternal, RemoveInternal, AddInjection, AddBranch, RemoveEquipment}
use Rattle.grid_requests.specs.declared.request.Request.{Request}
use Rattle.grid_requests.specs.declared.request.Request.TheVariants as requests
use Rattle.grid_print.specs.Objects.{object_of, array_of, whole, given}
use Rattle.grid_print.specs.Network.{switch_word, injection_word, injection_fields, end_value}

-- a command by its verb and its other members
abbrev pub command_of : List ℕ → List (List ℕ × Data) → Data
command_of verb fields = object_of ((codes "do", string verb) ∷ fields)

-- a command of one id
abbrev pub one_id : List ℕ → List ℕ → List ℕ → Data
one_id verb name id = command_of verb ((name, string id) ∷ [])

-- ---- edits

abbrev pub transformer_edit : List ℕ → List ℕ → List ℕ → Data → Data → Data
transformer_edit word id substation ends rated_u = command_of (codes "add_branch")
    ((codes "kind", string word) ∷ (codes "id", string id) ∷ (codes "ends", ends) ∷ (codes "substation", string substation) ∷ (codes "rated_u", rated_u) ∷ [])

abbrev pub line_edit : List ℕ → Data → Data
line_edit id ends = command_of (codes "add_branch") ((codes "kind", string (codes "LINE")) ∷ (codes "id", string id) ∷ (codes "ends", ends) ∷ [])

unfoldable pub add_branch_value : List ℕ → Branch → Data
add_branch_value id (Line end1 end2) = line_edit id (array_of end_value (end1 ∷ end2 ∷ []))
add_branch_value id (TwoWindings substation end1 end2 rated_u1 rated_u2) =
    transformer_edit (codes "TWO_WINDINGS") id substation (array_of end_value (end1 ∷ end2 ∷ [])) (array_of whole (rated_u1 ∷ rated_u2 ∷ []))
add_branch_value id (ThreeWindings substation end1 end2 end3 rated_u1 rated_u2 rated_u3) =
    transformer_edit (codes "THREE_WINDINGS") id substation (array_of end_value (end1 ∷ end2 ∷ end3 ∷ [])) (array_of whole (rated_u1 ∷ rated_u2 ∷ rated_u3 ∷ []))

abbrev pub add_level_value : List ℕ → List ℕ → ℤ → Option ℤ → Option ℤ → Data
add_level_value id substation nominal_v low_v high_v = command_of (codes "add_level")
    ((codes "id", string id) ∷ (codes "substation", string substation) ∷ (codes "nominal_v", whole nominal_v)
    ∷ (given (codes "low_v") whole low_v ++ given (codes "high_v") whole high_v))

abbrev pub add_injection_value : List ℕ → List ℕ → ℤ → Injection → Data
add_injection_value id level node item = command_of (codes "add_injection")
    ((codes "kind", string (injection_word item)) ∷ (codes "id", string id) ∷ (codes "level", string level) ∷ (codes "node", whole node) ∷ injection_fields item)

abbrev pub internal_edit : List ℕ → List ℕ → ℤ → ℤ → Data
internal_edit verb level node1 node2 = command_of verb ((codes "level", string level) ∷ (codes "node1", whole node1) ∷ (codes "node2", whole node2) ∷ [])

abbrev pub add_busbar_value : List ℕ → List ℕ → ℤ → Data
add_busbar_value id level node = command_of (codes "add_busbar") ((codes "id", string id) ∷ (codes "level", string level) ∷ (codes "node", whole node) ∷ [])

-- what an edit says of a new switch beside its ids
abbrev pub switch_fields : Edit → List (List ℕ × Data)
switch_fields (AddSwitch id level kind node1 node2 opened retained fictitious) =
    (codes "kind", string (switch_word kind)) ∷ (codes "node1", whole node1) ∷ (codes "node2", whole node2)
    ∷ (codes "open", boolean opened) ∷ (codes "retained", boolean retained) ∷ (codes "fictitious", boolean fictitious) ∷ []
switch_fields edit = []

abbrev pub add_switch_value : List ℕ → List ℕ → List (List ℕ × Data) → Data
add_switch_value id level fields = command_of (codes "add_switch") ((codes "id", string id) ∷ (codes "level", string level) ∷ fields)

unfoldable pub edit_value : Edit → Data
edit_value (AddSubstation id) = one_id (codes "add_substation") (codes "id") id
edit_value (AddLevel id substation nominal_v low_v high_v) = add_level_value id substation nominal_v low_v high_v
edit_value (AddBusbar id level node) = add_busbar_value id level node
edit_value (AddSwitch id level kind node1 node2 opened retained fictitious) = add_switch_value id level (switch_fields (AddSwitch id level kind node1 node2 opened retained fictitious))
edit_value (RemoveSwitch id) = one_id (codes "remove_switch") (codes "id") id
edit_value (AddInternal level node1 node2) = internal_edit (codes "add_internal") level node1 node2
edit_value (RemoveInternal level node1 node2) = internal_edit (codes "remove_internal") level node1 node2
edit_value (AddInjection id level node item) = add_injection_value id level node item
edit_value (AddBranch id shape) = add_branch_value id shape
edit_value (RemoveEquipment id) = one_id (codes "remove_equipment") (codes "id") id

-- ---- commands

-- the side is always written
abbrev pub sided : List ℕ → List ℕ → ℤ → Data
sided verb id side = command_of verb ((codes "equipment", string id) ∷ (codes "side", whole side) ∷ [])

abbrev pub set_power_value : List ℕ → ℤ → Data
set_power_value id watts = command_of (codes "set_power") ((codes "equipment", string id) ∷ (codes "watts", whole watts) ∷ [])

abbrev pub totals_value : Data
totals_value = command_of (codes "totals") []

abbrev pub retain_value : List ℕ → Bool → Data
retain_value id retained = command_of (codes "retain") ((codes "switch", string id) ∷ (codes "retained", boolean retained) ∷ [])

abbrev pub clone_value : List ℕ → List ℕ → Bool → Data
clone_value from to overwrite = command_of (codes "clone") ((codes "from", string from) ∷ (codes "to", string to) ∷ (codes "overwrite", boolean overwrite) ∷ [])

unfoldable pub request_value : Request → Data
request_value (requests.UseVariant name) = one_id (codes "use") (codes "variant") name
request_value (requests.OpenSwitch id) = one_id (codes "open") (codes "switch") id
request_value (requests.CloseSwitch id) = one_id (codes "close") (codes "switch") id
request_value (requests.RetainSwitch id retained) = retain_value id retained
request_value (requests.SetPower id watts) = set_power_value id watts
request_value requests.Totals = totals_value
request_value (requests.Connect id side) = sided (codes "connect") id side
request_value (requests.Disconnect id side) = sided (codes "disconnect") id side
request_value (requests.BusBreakerView level) = one_id (codes "bus_breaker_view") (codes "level") level
request_value (requests.BusView level) = one_id (codes "bus_view") (codes "level") level
request_value (requests.Components level) = one_id (codes "components") (codes "level") level
request_value (requests.CloneVariant from to overwrite) = clone_value from to overwrite
request_value (requests.RemoveVariant name) = one_id (codes "remove") (codes "variant") name
request_value (requests.Change edit) = edit_value edit
