-- The ids and the numbers that a request names.
use Rattle.std.specs.Prelude.{ℕ, ℤ, List, [], ◌∷◌, ◌++◌, Option, Some, None}
use Rattle.grid_kinds.specs.declared.Injection.{Injection}
use Rattle.grid_kinds.specs.declared.Injection.TheVariants as injections
use Rattle.grid_structure.specs.declared.Branch.{Branch}
use Rattle.grid_structure.specs.declared.Branch.TheVariants.{Line, TwoWindings, ThreeWindings}
use Rattle.grid_structure.specs.declared.Edit.{Edit}
use Rattle.grid_structure.specs.declared.Edit.TheVariants as edits
use Rattle.grid_requests.specs.declared.request.Request.{Request}
use Rattle.grid_requests.specs.declared.request.Request.TheVariants as requests

-- ---- its ids

abbrev pub shape_ids : Branch → List (List ℕ)
shape_ids (Line end1 end2) = end1.level ∷ end2.level ∷ []
shape_ids (TwoWindings substation end1 end2 rated_u1 rated_u2) = substation ∷ end1.level ∷ end2.level ∷ []
shape_ids (ThreeWindings substation end1 end2 end3 rated_u1 rated_u2 rated_u3) = substation ∷ end1.level ∷ end2.level ∷ end3.level ∷ []

abbrev pub edit_ids : Edit → List (List ℕ)
edit_ids (edits.AddSubstation id) = id ∷ []
edit_ids (edits.AddLevel id substation nominal_v low_v high_v) = id ∷ substation ∷ []
edit_ids (edits.AddBusbar id level node) = id ∷ level ∷ []
edit_ids (edits.AddSwitch id level kind node1 node2 opened retained fictitious) = id ∷ level ∷ []
edit_ids (edits.RemoveSwitch id) = id ∷ []
edit_ids (edits.AddInternal level node1 node2) = level ∷ []
edit_ids (edits.RemoveInternal level node1 node2) = level ∷ []
edit_ids (edits.AddInjection id level node item) = id ∷ level ∷ []
edit_ids (edits.AddBranch id shape) = id ∷ shape_ids shape
edit_ids (edits.RemoveEquipment id) = id ∷ []

abbrev pub request_ids : Request → List (List ℕ)
request_ids (requests.UseVariant name) = name ∷ []
request_ids (requests.OpenSwitch id) = id ∷ []
request_ids (requests.CloseSwitch id) = id ∷ []
request_ids (requests.RetainSwitch id retained) = id ∷ []
request_ids (requests.SetPower id watts) = id ∷ []
request_ids requests.Totals = []
request_ids (requests.Connect id side) = id ∷ []
request_ids (requests.Disconnect id side) = id ∷ []
request_ids (requests.BusBreakerView level) = level ∷ []
request_ids (requests.BusView level) = level ∷ []
request_ids (requests.Components level) = level ∷ []
request_ids (requests.CloneVariant from to overwrite) = from ∷ to ∷ []
request_ids (requests.RemoveVariant name) = name ∷ []
request_ids (requests.Change edit) = edit_ids edit

-- ---- its numbers

abbrev pub given_number : Option ℤ → List ℤ
given_number None = []
given_number (Some z) = z ∷ []

abbrev pub item_numbers : Injection → List ℤ
item_numbers (injections.Load p0 q0) = p0 ∷ q0 ∷ []
item_numbers (injections.Generator target_p target_v min_p max_p) = target_p ∷ target_v ∷ min_p ∷ max_p ∷ []
item_numbers (injections.Battery target_p target_q min_p max_p) = target_p ∷ target_q ∷ min_p ∷ max_p ∷ []
item_numbers (injections.ShuntCompensator section_count max_sections) = section_count ∷ max_sections ∷ []
item_numbers (injections.StaticVarCompensator target_q) = target_q ∷ []
item_numbers (injections.ConverterStation target_q) = target_q ∷ []

abbrev pub shape_numbers : Branch → List ℤ
shape_numbers (Line end1 end2) = end1.node ∷ end2.node ∷ []
shape_numbers (TwoWindings substation end1 end2 rated_u1 rated_u2) = end1.node ∷ end2.node ∷ rated_u1 ∷ rated_u2 ∷ []
shape_numbers (ThreeWindings substation end1 end2 end3 rated_u1 rated_u2 rated_u3) = end1.node ∷ end2.node ∷ end3.node ∷ rated_u1 ∷ rated_u2 ∷ rated_u3 ∷ []

abbrev pub edit_numbers : Edit → List ℤ
edit_numbers (edits.AddSubstation id) = []
edit_numbers (edits.AddLevel id substation nominal_v low_v high_v) = nominal_v ∷ (given_number low_v ++ given_number high_v)
edit_numbers (edits.AddBusbar id level node) = node ∷ []
edit_numbers (edits.AddSwitch id level kind node1 node2 opened retained fictitious) = node1 ∷ node2 ∷ []
edit_numbers (edits.RemoveSwitch id) = []
edit_numbers (edits.AddInternal level node1 node2) = node1 ∷ node2 ∷ []
edit_numbers (edits.RemoveInternal level node1 node2) = node1 ∷ node2 ∷ []
edit_numbers (edits.AddInjection id level node item) = node ∷ item_numbers item
edit_numbers (edits.AddBranch id shape) = shape_numbers shape
edit_numbers (edits.RemoveEquipment id) = []

abbrev pub request_numbers : Request → List ℤ
request_numbers (requests.UseVariant name) = []
request_numbers (requests.OpenSwitch id) = []
request_numbers (requests.CloseSwitch id) = []
request_numbers (requests.RetainSwitch id retained) = []
request_numbers (requests.SetPower id watts) = watts ∷ []
request_numbers requests.Totals = []
request_numbers (requests.Connect id side) = side ∷ []
request_numbers (requests.Disconnect id side) = side ∷ []
request_numbers (requests.BusBreakerView level) = []
request_numbers (requests.BusView level) = []
request_numbers (requests.Components level) = []
request_numbers (requests.CloneVariant from to overwrite) = []
request_numbers (requests.RemoveVariant name) = []
request_numbers (requests.Change edit) = edit_numbers edit
