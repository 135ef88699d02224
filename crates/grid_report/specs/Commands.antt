-- What a report writes of what was asked.
use Rattle.std.specs.Prelude.{ℕ, Bool, true, false, List, [], ◌++◌, codes}
use Rattle.grid_structure.specs.declared.Edit.{Edit}
use Rattle.grid_structure.specs.declared.Edit.TheVariants as edits
use Rattle.grid_requests.specs.declared.request.Request.{Request}
use Rattle.grid_requests.specs.declared.request.Request.TheVariants as requests
use Rattle.grid_report.specs.Words.{behind}

-- an edit, by its word and the id of what it adds or removes; an internal connection has no id
unfoldable pub edit_text : Edit → List ℕ
edit_text (edits.AddSubstation id) = codes "add_substation " ++ id
edit_text (edits.AddLevel id substation nominal_v low_v high_v) = codes "add_level " ++ id
edit_text (edits.AddBusbar id level node) = codes "add_busbar " ++ id
edit_text (edits.AddSwitch id level kind node1 node2 opened retained fictitious) = codes "add_switch " ++ id
edit_text (edits.RemoveSwitch id) = codes "remove_switch " ++ id
edit_text (edits.AddInternal level node1 node2) = codes "add_internal " ++ level ++ behind node1 ++ behind node2
edit_text (edits.RemoveInternal level node1 node2) = codes "remove_internal " ++ level ++ behind node1 ++ behind node2
edit_text (edits.AddInjection id level node item) = codes "add_injection " ++ id
edit_text (edits.AddBranch id shape) = codes "add_branch " ++ id
edit_text (edits.RemoveEquipment id) = codes "remove_equipment " ++ id

unfoldable pub retained_text : Bool → List ℕ
retained_text true = codes " on"
retained_text false = codes " off"

unfoldable pub overwrite_text : Bool → List ℕ
overwrite_text true = codes " overwrite"
overwrite_text false = []

unfoldable pub command_text : Request → List ℕ
command_text (requests.UseVariant name) = codes "use " ++ name
command_text (requests.OpenSwitch id) = codes "open " ++ id
command_text (requests.CloseSwitch id) = codes "close " ++ id
command_text (requests.RetainSwitch id retained) = codes "retain " ++ id ++ retained_text retained
command_text (requests.SetPower id watts) = codes "set_power " ++ id ++ behind watts
command_text requests.Totals = codes "totals"
command_text (requests.Connect id side) = codes "connect " ++ id ++ behind side
command_text (requests.Disconnect id side) = codes "disconnect " ++ id ++ behind side
command_text (requests.BusBreakerView level) = codes "bus_breaker_view " ++ level
command_text (requests.BusView level) = codes "bus_view " ++ level
command_text (requests.Components level) = codes "components " ++ level
command_text (requests.CloneVariant from to overwrite) = codes "clone " ++ from ++ codes " " ++ to ++ overwrite_text overwrite
command_text (requests.RemoveVariant name) = codes "remove " ++ name
command_text (requests.Change edit) = edit_text edit
