-- The value of a command tells it.
use Rattle.std.proofs.Common.{◌≡◌, ℕ, ℤ, List, Option, Some, None, refl, ap, ◌∙◌}
use Rattle.std.specs.Prelude.{codes, if◌then◌else◌}
use Rattle.std.specs.Str.{bytes_eq}
use Rattle.serde_json.specs.Data.{Data}
use Rattle.grid_structure.specs.declared.Edit.{Edit}
use Rattle.grid_structure.specs.declared.Edit.TheVariants as edits
use Rattle.grid_requests.specs.declared.request.Request.{Request}
use Rattle.grid_requests.specs.declared.request.Request.TheVariants as requests
use Rattle.grid_print.specs.Objects.{members_from}
use Rattle.grid_print.specs.Command.{edit_value, request_value}
use Rattle.grid_told.proofs.Sums.{whole_back}
use Rattle.grid_told.proofs.EditsTold.{id_at, whole_at, flag_at, edit_in, edit_back, injection_says, branch_says}

unfoldable pub request_by : List ℕ → Data → Request
request_by verb d =
    if bytes_eq verb (codes "use") then requests.UseVariant (id_at (codes "variant") d)
    else if bytes_eq verb (codes "open") then requests.OpenSwitch (id_at (codes "switch") d)
    else if bytes_eq verb (codes "close") then requests.CloseSwitch (id_at (codes "switch") d)
    else if bytes_eq verb (codes "retain") then requests.RetainSwitch (id_at (codes "switch") d) (flag_at (codes "retained") d)
    else if bytes_eq verb (codes "set_power") then requests.SetPower (id_at (codes "equipment") d) (whole_at (codes "watts") d)
    else if bytes_eq verb (codes "totals") then requests.Totals
    else if bytes_eq verb (codes "connect") then requests.Connect (id_at (codes "equipment") d) (whole_at (codes "side") d)
    else if bytes_eq verb (codes "disconnect") then requests.Disconnect (id_at (codes "equipment") d) (whole_at (codes "side") d)
    else if bytes_eq verb (codes "bus_breaker_view") then requests.BusBreakerView (id_at (codes "level") d)
    else if bytes_eq verb (codes "bus_view") then requests.BusView (id_at (codes "level") d)
    else if bytes_eq verb (codes "components") then requests.Components (id_at (codes "level") d)
    else if bytes_eq verb (codes "clone") then requests.CloneVariant (id_at (codes "from") d) (id_at (codes "to") d) (flag_at (codes "overwrite") d)
    else if bytes_eq verb (codes "remove") then requests.RemoveVariant (id_at (codes "variant") d)
    else requests.Change (edit_in d)

abbrev pub request_in : Data → Request
request_in d = request_by (id_at (codes "do") d) d

-- ---- edits

abbrev verb_of : Edit → List ℕ
verb_of (edits.AddSubstation id) = codes "add_substation"
verb_of (edits.AddLevel id substation nominal_v low_v high_v) = codes "add_level"
verb_of (edits.AddBusbar id level node) = codes "add_busbar"
verb_of (edits.AddSwitch id level kind node1 node2 opened retained fictitious) = codes "add_switch"
verb_of (edits.RemoveSwitch id) = codes "remove_switch"
verb_of (edits.AddInternal level node1 node2) = codes "add_internal"
verb_of (edits.RemoveInternal level node1 node2) = codes "remove_internal"
verb_of (edits.AddInjection id level node item) = codes "add_injection"
verb_of (edits.AddBranch id shape) = codes "add_branch"
verb_of (edits.RemoveEquipment id) = codes "remove_equipment"

level_verb : (id substation : List ℕ) (nominal_v : ℤ) (low_v high_v : Option ℤ) → id_at (codes "do") (edit_value (edits.AddLevel id substation nominal_v low_v high_v)) ≡ codes "add_level"
unfolding edit_value members_from
level_verb id substation nominal_v None None = refl
level_verb id substation nominal_v None (Some b) = refl
level_verb id substation nominal_v (Some a) None = refl
level_verb id substation nominal_v (Some a) (Some b) = refl

verb_is : (e : Edit) → id_at (codes "do") (edit_value e) ≡ verb_of e
unfolding edit_value members_from
verb_is (edits.AddLevel id substation nominal_v low_v high_v) = level_verb id substation nominal_v low_v high_v
verb_is (edits.AddInjection id level node item) = (injection_says id level node item).0
verb_is (edits.AddBranch id shape) = (branch_says id shape).0
verb_is other = refl

changes : (e : Edit) (d : Data) → request_by (verb_of e) d ≡ requests.Change (edit_in d)
unfolding request_by
changes (edits.AddSubstation id) d = refl
changes other d = refl

change_back : (e : Edit) → request_in (edit_value e) ≡ requests.Change e
change_back e = ap (λ verb. request_by verb (edit_value e)) (verb_is e) ∙ changes e (edit_value e) ∙ ap requests.Change (edit_back e)

-- ---- commands

says_use : (d : Data) → request_by (codes "use") d ≡ requests.UseVariant (id_at (codes "variant") d)
unfolding request_by
says_use d = refl

says_open : (d : Data) → request_by (codes "open") d ≡ requests.OpenSwitch (id_at (codes "switch") d)
unfolding request_by
says_open d = refl

says_close : (d : Data) → request_by (codes "close") d ≡ requests.CloseSwitch (id_at (codes "switch") d)
unfolding request_by
says_close d = refl

says_retain : (d : Data) → request_by (codes "retain") d ≡ requests.RetainSwitch (id_at (codes "switch") d) (flag_at (codes "retained") d)
unfolding request_by
says_retain d = refl

says_power : (d : Data) → request_by (codes "set_power") d ≡ requests.SetPower (id_at (codes "equipment") d) (whole_at (codes "watts") d)
unfolding request_by
says_power d = refl

says_totals : (d : Data) → request_by (codes "totals") d ≡ requests.Totals
unfolding request_by
says_totals d = refl

says_connect : (d : Data) → request_by (codes "connect") d ≡ requests.Connect (id_at (codes "equipment") d) (whole_at (codes "side") d)
unfolding request_by
says_connect d = refl

says_disconnect : (d : Data) → request_by (codes "disconnect") d ≡ requests.Disconnect (id_at (codes "equipment") d) (whole_at (codes "side") d)
unfolding request_by
says_disconnect d = refl

says_breaker_view : (d : Data) → request_by (codes "bus_breaker_view") d ≡ requests.BusBreakerView (id_at (codes "level") d)
unfolding request_by
says_breaker_view d = refl

says_view : (d : Data) → request_by (codes "bus_view") d ≡ requests.BusView (id_at (codes "level") d)
unfolding request_by
says_view d = refl

says_components : (d : Data) → request_by (codes "components") d ≡ requests.Components (id_at (codes "level") d)
unfolding request_by
says_components d = refl

says_clone : (d : Data) → request_by (codes "clone") d ≡ requests.CloneVariant (id_at (codes "from") d) (id_at (codes "to") d) (flag_at (codes "overwrite") d)
unfolding request_by
says_clone d = refl

says_remove : (d : Data) → request_by (codes "remove") d ≡ requests.RemoveVariant (id_at (codes "variant") d)
unfolding request_by
says_remove d = refl

pub request_back : (r : Request) → request_in (request_value r) ≡ r
unfolding request_value members_from
request_back (requests.UseVariant name) = says_use (request_value (requests.UseVariant name))
request_back (requests.OpenSwitch id) = says_open (request_value (requests.OpenSwitch id))
request_back (requests.CloseSwitch id) = says_close (request_value (requests.CloseSwitch id))
request_back (requests.RetainSwitch id retained) = says_retain (request_value (requests.RetainSwitch id retained))
request_back (requests.SetPower id watts) = says_power (request_value (requests.SetPower id watts)) ∙ ap (requests.SetPower id) (whole_back watts)
request_back requests.Totals = says_totals (request_value requests.Totals)
request_back (requests.Connect id side) = says_connect (request_value (requests.Connect id side)) ∙ ap (requests.Connect id) (whole_back side)
request_back (requests.Disconnect id side) = says_disconnect (request_value (requests.Disconnect id side)) ∙ ap (requests.Disconnect id) (whole_back side)
request_back (requests.BusBreakerView level) = says_breaker_view (request_value (requests.BusBreakerView level))
request_back (requests.BusView level) = says_view (request_value (requests.BusView level))
request_back (requests.Components level) = says_components (request_value (requests.Components level))
request_back (requests.CloneVariant from to overwrite) = says_clone (request_value (requests.CloneVariant from to overwrite))
request_back (requests.RemoveVariant name) = says_remove (request_value (requests.RemoveVariant name))
request_back (requests.Change edit) = change_back edit
