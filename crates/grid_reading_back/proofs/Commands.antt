-- A printed command is read back as that command.
use Rattle.std.proofs.Common.{◌≡◌, ℕ, suc, ℤ, Bool, false, List, [], ◌∷◌, ◌++◌, Option, Some, None, Ok, refl, sym, ◌∙◌, ap}
use Rattle.std.specs.Prelude.{nat_le}
use Rattle.std.specs.List.{AllByRecursion}
use Rattle.grid_kinds.specs.declared.Injection.{Injection}
use Rattle.grid_kinds.specs.declared.Injection.TheVariants as injections
use Rattle.grid_kinds.specs.declared.SwitchKind.{SwitchKind}
use Rattle.grid_kinds.specs.declared.SwitchKind.TheVariants.{Breaker, Disconnector, LoadBreakSwitch}
use Rattle.grid_structure.specs.declared.Branch.{Branch}
use Rattle.grid_structure.specs.declared.Branch.TheVariants.{Line, TwoWindings, ThreeWindings}
use Rattle.grid_structure.specs.declared.Edit.{Edit}
use Rattle.grid_structure.specs.declared.Edit.TheVariants as edits
use Rattle.grid_requests.specs.declared.request.Request.{Request}
use Rattle.grid_requests.specs.declared.request.Request.TheVariants as requests
use Rattle.grid_requests.specs.RequestParts.{shape_ids, edit_ids, request_ids, given_number, item_numbers, shape_numbers, edit_numbers, request_numbers}
use Rattle.grid_json.specs.declared.format.Format.{Format}
use Rattle.grid_json.specs.declared.format.Format.TheVariants.{One, Two, Three, Four, Five}
use Rattle.grid_json.specs.declared.command.EditVerb.{EditVerb}
use Rattle.grid_json.specs.declared.command.EditVerb.TheVariants as edit_verbs
use Rattle.grid_json.specs.declared.command.Verb.{Verb}
use Rattle.grid_json.specs.declared.command.Verb.TheVariants as verbs
use Rattle.grid_json.specs.Formats.{number_of}
use Rattle.grid_json.specs.Network.{item_at, two_of, both, three_of, all_three}
use Rattle.grid_json.specs.Command.{known_verb, add_level_at, add_busbar_at, add_switch_at, add_internal_at, remove_internal_at, add_injection_at, shape_at, add_branch_at, clone_at, retain_at, set_power_at, sided_at, named_at, edit_at, request_at, command_at}
use Rattle.grid_print.specs.Objects.{members_from}
use Rattle.grid_print.specs.Command.{add_branch_value, edit_value, request_value}
use Rattle.grid_print.specs.Readable.{IsId, IsWhole}
use Rattle.grid_print.specs.Formats.{item_format, edit_format, first_format}
use Rattle.grid_print.proofs.Each.{each_of}
use Rattle.grid_print.proofs.RoundTrips.{ends_are_read}
use Rattle.grid_reading_back.specs.Requests.{IsReadableRequest, IsKnownIn}
use Rattle.grid_reading_back.proofs.Values.{whole_back, each_format}
use Rattle.grid_reading_back.proofs.Formats.{known_in_fourth}

-- ---- verbs of every format

abbrev IsOld : Verb → Type 0
IsOld verb = (format : Format) → known_verb format verb ≡ Ok verb

old_use : IsOld verbs.Use
old_use = each_format (λ f. known_verb f verbs.Use ≡ Ok verbs.Use) refl refl refl refl refl

old_remove : IsOld verbs.Remove
old_remove = each_format (λ f. known_verb f verbs.Remove ≡ Ok verbs.Remove) refl refl refl refl refl

old_open : IsOld verbs.Open
old_open = each_format (λ f. known_verb f verbs.Open ≡ Ok verbs.Open) refl refl refl refl refl

old_close : IsOld verbs.Close
old_close = each_format (λ f. known_verb f verbs.Close ≡ Ok verbs.Close) refl refl refl refl refl

old_connect : IsOld verbs.Connect
old_connect = each_format (λ f. known_verb f verbs.Connect ≡ Ok verbs.Connect) refl refl refl refl refl

old_disconnect : IsOld verbs.Disconnect
old_disconnect = each_format (λ f. known_verb f verbs.Disconnect ≡ Ok verbs.Disconnect) refl refl refl refl refl

old_bus_breaker_view : IsOld verbs.BusBreakerView
old_bus_breaker_view = each_format (λ f. known_verb f verbs.BusBreakerView ≡ Ok verbs.BusBreakerView) refl refl refl refl refl

old_bus_view : IsOld verbs.BusView
old_bus_view = each_format (λ f. known_verb f verbs.BusView ≡ Ok verbs.BusView) refl refl refl refl refl

old_components : IsOld verbs.Components
old_components = each_format (λ f. known_verb f verbs.Components ≡ Ok verbs.Components) refl refl refl refl refl

old_clone : IsOld verbs.Clone
old_clone = each_format (λ f. known_verb f verbs.Clone ≡ Ok verbs.Clone) refl refl refl refl refl

old_edit : (edit : EditVerb) → IsOld (verbs.Change edit)
old_edit edit = each_format (λ f. known_verb f (verbs.Change edit) ≡ Ok (verbs.Change edit)) refl refl refl refl refl

-- ---- edits

abbrev AreIds : List (List ℕ) → Type 0
AreIds ids = AllByRecursion IsId ids

abbrev AreNumbers : List ℤ → Type 0
AreNumbers numbers = AllByRecursion IsWhole numbers

-- the command of an edit is read as that edit
abbrev IsEditBack : Format → Edit → Type 0
IsEditBack format edit = command_at format (edit_value edit) ≡ Ok (requests.Change edit)

add_level_back : (format : Format) (id substation : List ℕ) (nominal_v : ℤ) (low_v high_v : Option ℤ) → AreIds (id ∷ substation ∷ []) → AreNumbers (nominal_v ∷ (given_number low_v ++ given_number high_v))
    → IsEditBack format (edits.AddLevel id substation nominal_v low_v high_v)
unfolding command_at request_at edit_at add_level_at edit_value members_from
add_level_back format id substation nominal_v None None ids fit = rw (old_edit edit_verbs.AddLevel format, ids.0, ids.1.0, whole_back nominal_v fit.0) refl
add_level_back format id substation nominal_v (Some low) None ids fit = rw (old_edit edit_verbs.AddLevel format, ids.0, ids.1.0, whole_back nominal_v fit.0, whole_back low fit.1.0) refl
add_level_back format id substation nominal_v None (Some high) ids fit = rw (old_edit edit_verbs.AddLevel format, ids.0, ids.1.0, whole_back nominal_v fit.0, whole_back high fit.1.0) refl
add_level_back format id substation nominal_v (Some low) (Some high) ids fit =
    rw (old_edit edit_verbs.AddLevel format, ids.0, ids.1.0, whole_back nominal_v fit.0, whole_back low fit.1.0, whole_back high fit.1.1.0) refl

add_switch_back : (format : Format) (id level : List ℕ) (kind : SwitchKind) (node1 node2 : ℤ) (opened retained fictitious : Bool) → AreIds (id ∷ level ∷ []) → AreNumbers (node1 ∷ node2 ∷ [])
    → IsEditBack format (edits.AddSwitch id level kind node1 node2 opened retained fictitious)
unfolding command_at request_at edit_at add_switch_at edit_value members_from
add_switch_back format id level Breaker node1 node2 opened retained fictitious ids fit = rw (old_edit edit_verbs.AddSwitch format, ids.0, ids.1.0, whole_back node1 fit.0, whole_back node2 fit.1.0) refl
add_switch_back format id level Disconnector node1 node2 opened retained fictitious ids fit = rw (old_edit edit_verbs.AddSwitch format, ids.0, ids.1.0, whole_back node1 fit.0, whole_back node2 fit.1.0) refl
add_switch_back format id level LoadBreakSwitch node1 node2 opened retained fictitious ids fit = rw (old_edit edit_verbs.AddSwitch format, ids.0, ids.1.0, whole_back node1 fit.0, whole_back node2 fit.1.0) refl

-- an injection of a kind that the format has
add_injection_back : (format : Format) (id level : List ℕ) (node : ℤ) (read : Injection) → AreIds (id ∷ level ∷ []) → AreNumbers (node ∷ item_numbers read) → nat_le (suc (number_of format)) (item_format read) ≡ false
    → IsEditBack format (edits.AddInjection id level node read)
unfolding command_at request_at edit_at add_injection_at item_at item_format edit_value members_from
add_injection_back format id level node (injections.Load p0 q0) ids fit known =
    rw (old_edit edit_verbs.AddInjection format, ids.0, ids.1.0, whole_back node fit.0, whole_back p0 fit.1.0, whole_back q0 fit.1.1.0) refl
add_injection_back format id level node (injections.Generator target_p target_v min_p max_p) ids fit known =
    rw (
      old_edit edit_verbs.AddInjection format,
      ids.0,
      ids.1.0,
      whole_back node fit.0,
      whole_back target_p fit.1.0,
      whole_back target_v fit.1.1.0,
      whole_back min_p fit.1.1.1.0,
      whole_back max_p fit.1.1.1.1.0,
    ) refl
add_injection_back format id level node (injections.Battery target_p target_q min_p max_p) ids fit known =
    rw (
      old_edit edit_verbs.AddInjection format,
      ids.0,
      ids.1.0,
      whole_back node fit.0,
      whole_back target_p fit.1.0,
      whole_back target_q fit.1.1.0,
      whole_back min_p fit.1.1.1.0,
      whole_back max_p fit.1.1.1.1.0,
    ) refl
add_injection_back format id level node (injections.ShuntCompensator section_count max_sections) ids fit known =
    rw (old_edit edit_verbs.AddInjection format, ids.0, ids.1.0, whole_back node fit.0, whole_back section_count fit.1.0, whole_back max_sections fit.1.1.0) refl
add_injection_back format id level node (injections.StaticVarCompensator target_q) ids fit known =
    rw (old_edit edit_verbs.AddInjection format, ids.0, ids.1.0, whole_back node fit.0, whole_back target_q fit.1.0) refl
add_injection_back One id level node (injections.ConverterStation target_q) ids fit known = cc
add_injection_back Two id level node (injections.ConverterStation target_q) ids fit known = cc
add_injection_back Three id level node (injections.ConverterStation target_q) ids fit known = cc
add_injection_back Four id level node (injections.ConverterStation target_q) ids fit known = rw (ids.0, ids.1.0, whole_back node fit.0, whole_back target_q fit.1.0) refl
add_injection_back Five id level node (injections.ConverterStation target_q) ids fit known = rw (ids.0, ids.1.0, whole_back node fit.0, whole_back target_q fit.1.0) refl

add_branch_back : (format : Format) (id : List ℕ) (shape : Branch) → AreIds (id ∷ shape_ids shape) → AreNumbers (shape_numbers shape) → IsEditBack format (edits.AddBranch id shape)
unfolding command_at request_at edit_at add_branch_at shape_at two_of both three_of all_three edit_value add_branch_value members_from
add_branch_back format id (Line end1 end2) ids fit = rw (old_edit edit_verbs.AddBranch format, ids.0, ends_are_read end1 (ids.1.0, fit.0), ends_are_read end2 (ids.1.1.0, fit.1.0)) refl
add_branch_back format id (TwoWindings substation end1 end2 rated_u1 rated_u2) ids fit =
    rw (
      old_edit edit_verbs.AddBranch format,
      ids.0,
      ids.1.0,
      ends_are_read end1 (ids.1.1.0, fit.0),
      ends_are_read end2 (ids.1.1.1.0, fit.1.0),
      whole_back rated_u1 fit.1.1.0,
      whole_back rated_u2 fit.1.1.1.0,
    ) refl
add_branch_back format id (ThreeWindings substation end1 end2 end3 rated_u1 rated_u2 rated_u3) ids fit =
    rw (
      old_edit edit_verbs.AddBranch format,
      ids.0,
      ids.1.0,
      ends_are_read end1 (ids.1.1.0, fit.0),
      ends_are_read end2 (ids.1.1.1.0, fit.1.0),
      ends_are_read end3 (ids.1.1.1.1.0, fit.1.1.0),
      whole_back rated_u1 fit.1.1.1.0,
      whole_back rated_u2 fit.1.1.1.1.0,
      whole_back rated_u3 fit.1.1.1.1.1.0,
    ) refl

edit_back : (format : Format) (edit : Edit) → AreIds (edit_ids edit) → AreNumbers (edit_numbers edit) → nat_le (suc (number_of format)) (edit_format edit) ≡ false → IsEditBack format edit
unfolding command_at request_at edit_at named_at add_busbar_at add_internal_at remove_internal_at edit_format edit_value members_from
edit_back format (edits.AddSubstation id) ids fit known = rw (old_edit edit_verbs.AddSubstation format, ids.0) refl
edit_back format (edits.AddLevel id substation nominal_v low_v high_v) ids fit known = add_level_back format id substation nominal_v low_v high_v ids fit
edit_back format (edits.AddBusbar id level node) ids fit known = rw (old_edit edit_verbs.AddBusbar format, ids.0, ids.1.0, whole_back node fit.0) refl
edit_back format (edits.AddSwitch id level kind node1 node2 opened retained fictitious) ids fit known = add_switch_back format id level kind node1 node2 opened retained fictitious ids fit
edit_back format (edits.RemoveSwitch id) ids fit known = rw (old_edit edit_verbs.RemoveSwitch format, ids.0) refl
edit_back format (edits.AddInternal level node1 node2) ids fit known = rw (old_edit edit_verbs.AddInternal format, ids.0, whole_back node1 fit.0, whole_back node2 fit.1.0) refl
edit_back format (edits.RemoveInternal level node1 node2) ids fit known = rw (old_edit edit_verbs.RemoveInternal format, ids.0, whole_back node1 fit.0, whole_back node2 fit.1.0) refl
edit_back format (edits.AddInjection id level node read) ids fit known = add_injection_back format id level node read ids fit known
edit_back format (edits.AddBranch id shape) ids fit known = add_branch_back format id shape ids fit
edit_back format (edits.RemoveEquipment id) ids fit known = rw (old_edit edit_verbs.RemoveEquipment format, ids.0) refl

-- ---- commands of later formats

-- the command of a request is read as that request
abbrev IsBack : Format → Request → Type 0
IsBack format request = command_at format (request_value request) ≡ Ok request

retain_back : (format : Format) (id : List ℕ) (retained : Bool) → IsId id → IsKnownIn format (requests.RetainSwitch id retained) → IsBack format (requests.RetainSwitch id retained)
unfolding command_at request_at retain_at first_format request_value members_from
retain_back One id retained valid known = cc
retain_back other id retained valid known = rw valid refl

set_power_back : (format : Format) (id : List ℕ) (watts : ℤ) → IsId id → IsWhole watts → IsKnownIn format (requests.SetPower id watts) → IsBack format (requests.SetPower id watts)
unfolding command_at request_at set_power_at first_format request_value members_from
set_power_back One id watts valid small known = cc
set_power_back Two id watts valid small known = cc
set_power_back Three id watts valid small known = rw (valid, whole_back watts small) refl
set_power_back Four id watts valid small known = rw (valid, whole_back watts small) refl
set_power_back Five id watts valid small known = rw (valid, whole_back watts small) refl

totals_back : (format : Format) → IsKnownIn format requests.Totals → IsBack format requests.Totals
unfolding command_at request_at first_format request_value members_from
totals_back One known = cc
totals_back Two known = cc
totals_back Three known = refl
totals_back Four known = refl
totals_back Five known = refl

-- ---- commands

request_back : (format : Format) (request : Request) → AreIds (request_ids request) → AreNumbers (request_numbers request) → IsKnownIn format request → IsBack format request
unfolding command_at request_at named_at sided_at clone_at first_format request_value members_from
request_back format (requests.UseVariant name) ids fit known = rw (old_use format, ids.0) refl
request_back format (requests.OpenSwitch id) ids fit known = rw (old_open format, ids.0) refl
request_back format (requests.CloseSwitch id) ids fit known = rw (old_close format, ids.0) refl
request_back format (requests.RetainSwitch id retained) ids fit known = retain_back format id retained ids.0 known
request_back format (requests.SetPower id watts) ids fit known = set_power_back format id watts ids.0 fit.0 known
request_back format requests.Totals ids fit known = totals_back format known
request_back format (requests.Connect id side) ids fit known = rw (old_connect format, ids.0, whole_back side fit.0) refl
request_back format (requests.Disconnect id side) ids fit known = rw (old_disconnect format, ids.0, whole_back side fit.0) refl
request_back format (requests.BusBreakerView level) ids fit known = rw (old_bus_breaker_view format, ids.0) refl
request_back format (requests.BusView level) ids fit known = rw (old_bus_view format, ids.0) refl
request_back format (requests.Components level) ids fit known = rw (old_components format, ids.0) refl
request_back format (requests.CloneVariant from to overwrite) ids fit known = rw (old_clone format, ids.0, ids.1.0) refl
request_back format (requests.RemoveVariant name) ids fit known = rw (old_remove format, ids.0) refl
request_back format (requests.Change edit) ids fit known = edit_back format edit ids fit known

pub command_back : (format : Format) (request : Request) → IsReadableRequest request → IsKnownIn format request → command_at format (request_value request) ≡ Ok request
command_back format request fits known =
    request_back format request (each_of IsId (request_ids request) fits.0) (each_of IsWhole (request_numbers request) fits.1) known

-- requests whose objects are equal are equal
pub same_command : (a b : Request) → IsReadableRequest a → IsReadableRequest b → request_value a ≡ request_value b → a ≡ b
same_command a b fits1 fits2 same =
    let both : Ok a ≡ Ok b = sym (command_back Four a fits1 (known_in_fourth a)) ∙ ap (command_at Four) same ∙ command_back Four b fits2 (known_in_fourth b) in
    cc
