-- The value of a job that was read has a text that is read back as the value.
use Rattle.std.proofs.Common.{◌≡◌, ◌<◌, ◌≤◌, ◌^◌, ℕ, ℤ, pos, negsuc, Bool, true, false, not, List, [], ◌∷◌, ◌++◌, length, map, Option, Some, None, IsUtf8, refl, arith}
use Rattle.std.specs.Prelude.{IfSome, codes, int_lt, ⊤}
use Rattle.std.specs.List.{AllByRecursion, flat_map, list_all}
use Rattle.std.proofs.lemmas.Bool.{and_parts, ltb-true}
use Rattle.json.proofs.Printed.Utf8.{are_ascii, IsUtf8-are_ascii}
use Rattle.serde_json.specs.Data.{Data, string, Members, no_members, put}
use Rattle.serde_json.specs.View.{items_of}
use Rattle.grid_lemmas.proofs.Lists.{length_map}
use Rattle.grid_kinds.specs.declared.Injection.{Injection}
use Rattle.grid_kinds.specs.declared.Injection.TheVariants.{Load, Generator, Battery, ShuntCompensator, StaticVarCompensator, ConverterStation}
use Rattle.grid_kinds.specs.declared.SwitchKind.{SwitchKind}
use Rattle.grid_kinds.specs.declared.SwitchKind.TheVariants.{Breaker, Disconnector, LoadBreakSwitch}
use Rattle.grid_level.specs.declared.Placed.{Placed}
use Rattle.grid_level.specs.declared.Stand.{Stand}
use Rattle.grid_level.specs.declared.Stand.TheVariants.{Busbar, Feeder, BranchEnd}
use Rattle.grid_level.specs.declared.Switch.{Switch}
use Rattle.grid_level.specs.declared.Internal.{Internal}
use Rattle.grid_level.specs.VoltageLevel.{VoltageLevel}
use Rattle.grid_structure.specs.declared.End.{End}
use Rattle.grid_structure.specs.declared.NamedBranch.{NamedBranch}
use Rattle.grid_structure.specs.declared.Branch.{Branch}
use Rattle.grid_structure.specs.declared.Branch.TheVariants.{Line, TwoWindings, ThreeWindings}
use Rattle.grid_structure.specs.declared.Edit.{Edit}
use Rattle.grid_structure.specs.declared.Edit.TheVariants as edits
use Rattle.grid_structure.specs.Network.{Network, Substation}
use Rattle.grid_requests.specs.declared.request.Request.{Request}
use Rattle.grid_requests.specs.declared.request.Request.TheVariants as requests
use Rattle.grid_requests.specs.RequestParts.{shape_ids, shape_numbers, item_numbers, given_number}
use Rattle.grid_events.specs.declared.filter.Filter.{Filter}
use Rattle.grid_json.specs.declared.format.Format.{Format}
use Rattle.grid_json.specs.declared.format.Format.TheVariants.{One}
use Rattle.grid_json.specs.declared.whole.Job.{Job}
use Rattle.grid_json.specs.Formats.{number_of}
use Rattle.grid_json.specs.Job.{max_workers, is_worker, is_order, counts_from}
use Rattle.grid_print.specs.Objects.{members_from, object_of, array_of, whole, natural, given, word_if}
use Rattle.grid_print.specs.Network.{switch_word, injection_word, injection_fields, busbar_of, injection_of, busbars_value, injections_value, switch_value, internal_value, level_value, end_value, branch_value, named_branch_value, substation_value, network_value}
use Rattle.grid_print.specs.Command.{add_branch_value, edit_value, request_value}
use Rattle.grid_print.specs.Formats.{least_format}
use Rattle.grid_print.specs.Job.{kinds_value, listener_value, script_value, job_value}
use Rattle.grid_reading_back.specs.Jobs.{IsScheduleOf}
use Rattle.grid_reading_back.specs.Spelling.{IsSpelled, ItemsAreSpelled, MembersAreSpelled}
use Rattle.grid_reading_back.proofs.ValueTexts.{put_spelled}
use Rattle.grid_reading_back.proofs.Networks.{SwitchKeeps, InternalKeeps, PlacedKeeps, EndKeeps, LevelKeeps, BranchKeeps, SubstationKeeps, NetworkKeeps, EditKeeps, RequestKeeps}
use Rattle.grid_reading_back.proofs.Legible.{IsSigned}
use Rattle.grid_reading_back.proofs.EditRules.{join}
use Rattle.grid_reading_back.proofs.Formats.{least_has_all}
use Rattle.grid_reading_back.proofs.ReadableJobs.{IsKeptId, JobKeeps}

-- ---- objects and arrays

-- the names of members are ASCII
abbrev FieldsAreSpelled : List (List ℕ × Data) → Type 0
FieldsAreSpelled [] = ⊤
FieldsAreSpelled (f ∷ fields) = ((are_ascii f.0 ≡ true) × IsSpelled f.1) × FieldsAreSpelled fields

members_spelled : (ms : Members) (fields : List (List ℕ × Data)) → MembersAreSpelled ms → FieldsAreSpelled fields → MembersAreSpelled (members_from ms fields)
unfolding members_from
members_spelled ms [] old new = old
members_spelled ms (f ∷ fields) old new = members_spelled (put f.0 f.1 ms) fields (put_spelled f.0 f.1 ms (IsUtf8-are_ascii f.0 new.0.0) new.0.1 old) new.1

object_spelled : (fields : List (List ℕ × Data)) → FieldsAreSpelled fields → IsSpelled (object_of fields)
object_spelled fields new = members_spelled no_members fields tt new

fields_join : (xs ys : List (List ℕ × Data)) → FieldsAreSpelled xs → FieldsAreSpelled ys → FieldsAreSpelled (xs ++ ys)
fields_join [] ys left right = right
fields_join (x ∷ xs) ys left right = (left.0, fields_join xs ys left.1 right)

items_spelled : (ds : List Data) → AllByRecursion IsSpelled ds → ItemsAreSpelled (items_of ds)
items_spelled [] all = tt
items_spelled (d ∷ ds) all = (all.0, items_spelled ds all.1)

array_spelled : {A : Type 0} (R : A → Type 0) (written : A → Data) → ((x : A) → R x → IsSpelled (written x)) → (xs : List A) → AllByRecursion R xs → IsSpelled (array_of written xs)
array_spelled R written each [] all = tt
array_spelled R written each (x ∷ xs) all = (each x all.0, array_spelled R written each xs all.1)

flat_spelled : {A : Type 0} (R : A → Type 0) (written : A → List Data) → ((x : A) → R x → AllByRecursion IsSpelled (written x)) → (xs : List A) → AllByRecursion R xs → AllByRecursion IsSpelled (flat_map written xs)
flat_spelled R written each [] all = tt
flat_spelled R written each (x ∷ xs) all = join IsSpelled (written x) (flat_map written xs) (each x all.0) (flat_spelled R written each xs all.1)

whole_spelled : (z : ℤ) → IsSigned z → IsSpelled (whole z)
whole_spelled (pos n) fits = omega (arith, fits)
whole_spelled (negsuc n) fits = fits

natural_spelled : (n : ℕ) → n < 2 ^ 63 → IsSpelled (natural n)
natural_spelled n fits = omega (arith, fits)

given_spelled : {A : Type 0} (R : A → Type 0) (name : List ℕ) (written : A → Data) → are_ascii name ≡ true → ((x : A) → R x → IsSpelled (written x)) → (o : Option A) → IfSome o R → FieldsAreSpelled (given name written o)
given_spelled R name written ascii each None fits = tt
given_spelled R name written ascii each (Some x) fits = ((ascii, each x fits), tt)

-- ---- words

switch_word_ascii : (kind : SwitchKind) → are_ascii (switch_word kind) ≡ true
switch_word_ascii Breaker = refl
switch_word_ascii Disconnector = refl
switch_word_ascii LoadBreakSwitch = refl

injection_word_ascii : (x : Injection) → are_ascii (injection_word x) ≡ true
injection_word_ascii (Load p0 q0) = refl
injection_word_ascii other = refl

word_spelled : (word : List ℕ) → are_ascii word ≡ true → IsSpelled (string word)
word_spelled word ascii = IsUtf8-are_ascii word ascii

if_spelled : (b : Bool) (word : List ℕ) → are_ascii word ≡ true → AllByRecursion IsSpelled (word_if b word)
if_spelled true word ascii = (IsUtf8-are_ascii word ascii, tt)
if_spelled false word ascii = tt

-- ---- what keeps texts and numbers that fit

abbrev Id : List ℕ → Type 0
Id id = IsKeptId IsUtf8 id

item_spelled : (x : Injection) → AllByRecursion IsSigned (item_numbers x) → FieldsAreSpelled (injection_fields x)
item_spelled (Load p0 q0) fit = ((refl, whole_spelled p0 fit.0), ((refl, whole_spelled q0 fit.1.0), tt))
item_spelled (Generator target_p target_v min_p max_p) fit =
    ((refl, whole_spelled target_p fit.0), ((refl, whole_spelled target_v fit.1.0), ((refl, whole_spelled min_p fit.1.1.0), ((refl, whole_spelled max_p fit.1.1.1.0), tt))))
item_spelled (Battery target_p target_q min_p max_p) fit =
    ((refl, whole_spelled target_p fit.0), ((refl, whole_spelled target_q fit.1.0), ((refl, whole_spelled min_p fit.1.1.0), ((refl, whole_spelled max_p fit.1.1.1.0), tt))))
item_spelled (ShuntCompensator section_count max_sections) fit = ((refl, whole_spelled section_count fit.0), ((refl, whole_spelled max_sections fit.1.0), tt))
item_spelled (StaticVarCompensator target_q) fit = ((refl, whole_spelled target_q fit.0), tt)
item_spelled (ConverterStation target_q) fit = ((refl, whole_spelled target_q fit.0), tt)

busbar_spelled : (id : List ℕ) (node : ℕ) (stand : Stand) → IsUtf8 id → node < 2 ^ 63 → AllByRecursion IsSpelled (busbar_of id node stand)
busbar_spelled id node Busbar text fits = (object_spelled _ ((refl, text), ((refl, natural_spelled node fits), tt)), tt)
busbar_spelled id node (Feeder x) text fits = tt
busbar_spelled id node BranchEnd text fits = tt

injection_spelled : (p : Placed) (stand : Stand) → p.stand ≡ stand → PlacedKeeps Id IsSigned p → AllByRecursion IsSpelled (injection_of p.terminal.equipment p.node stand)
injection_spelled p Busbar is keeps = tt
injection_spelled p (Feeder x) is keeps =
    (object_spelled _ ((refl, word_spelled (injection_word x) (injection_word_ascii x)), ((refl, keeps.0.1), ((refl, natural_spelled p.node keeps.1), item_spelled x (rw is at keeps.2)))), tt)
injection_spelled p BranchEnd is keeps = tt

busbars_spelled : (placed : List Placed) → AllByRecursion (PlacedKeeps Id IsSigned) placed → IsSpelled (busbars_value placed)
unfolding busbars_value
busbars_spelled placed all = items_spelled _ (flat_spelled (PlacedKeeps Id IsSigned) (λ p. busbar_of p.terminal.equipment p.node p.stand) (λ p k. busbar_spelled p.terminal.equipment p.node p.stand k.0.1 k.1) placed all)

injections_spelled : (placed : List Placed) → AllByRecursion (PlacedKeeps Id IsSigned) placed → IsSpelled (injections_value placed)
unfolding injections_value
injections_spelled placed all = items_spelled _ (flat_spelled (PlacedKeeps Id IsSigned) (λ p. injection_of p.terminal.equipment p.node p.stand) (λ p k. injection_spelled p p.stand refl k) placed all)

switch_spelled : (s : Switch) → SwitchKeeps Id IsSigned s → IsSpelled (switch_value s)
unfolding switch_value
switch_spelled s keeps = object_spelled _
    ((refl, keeps.0.1), ((refl, word_spelled (switch_word s.kind) (switch_word_ascii s.kind)), ((refl, natural_spelled s.node1 keeps.1), ((refl, natural_spelled s.node2 keeps.2), ((refl, tt), ((refl, tt), ((refl, tt), tt)))))))

internal_spelled : (i : Internal) → InternalKeeps Id IsSigned i → IsSpelled (internal_value i)
unfolding internal_value
internal_spelled i keeps = object_spelled _ ((refl, natural_spelled i.node1 keeps.0), ((refl, natural_spelled i.node2 keeps.1), tt))

level_spelled : (l : VoltageLevel) → LevelKeeps Id IsSigned l → IsSpelled (level_value l)
unfolding level_value
level_spelled l keeps = object_spelled _ (
  (refl, keeps.id.1),
  (
    (refl, whole_spelled l.nominal_v keeps.nominal),
    fields_join _ _ (given_spelled IsSigned (codes "low_v") whole refl whole_spelled l.low_v keeps.low) (fields_join _ _ (given_spelled IsSigned (codes "high_v") whole refl whole_spelled l.high_v keeps.high) (
      (refl, busbars_spelled l.placed keeps.placed),
      (
        (refl, array_spelled (SwitchKeeps Id IsSigned) switch_value switch_spelled l.switches keeps.switches),
        ((refl, array_spelled (InternalKeeps Id IsSigned) internal_value internal_spelled l.internals keeps.internals), ((refl, injections_spelled l.placed keeps.placed), tt)),
      ),
    )),
  ),
)

end_spelled : (e : End) → EndKeeps Id IsSigned e → IsSpelled (end_value e)
unfolding end_value
end_spelled e keeps = object_spelled _ ((refl, keeps.0.1), ((refl, whole_spelled e.node keeps.1), tt))

ends_spelled : (ends : List End) → AllByRecursion (EndKeeps Id IsSigned) ends → IsSpelled (array_of end_value ends)
ends_spelled ends all = array_spelled (EndKeeps Id IsSigned) end_value end_spelled ends all

rated_spelled : (volts : List ℤ) → AllByRecursion IsSigned volts → IsSpelled (array_of whole volts)
rated_spelled volts all = array_spelled IsSigned whole whole_spelled volts all

branch_spelled : (id : List ℕ) (shape : Branch) → IsUtf8 id → AllByRecursion Id (shape_ids shape) → AllByRecursion IsSigned (shape_numbers shape) → IsSpelled (branch_value id shape)
unfolding branch_value
branch_spelled id (Line end1 end2) text ids fit = object_spelled _ ((refl, text), ((refl, ends_spelled (end1 ∷ end2 ∷ []) ((ids.0, fit.0), ((ids.1.0, fit.1.0), tt))), tt))
branch_spelled id (TwoWindings substation end1 end2 rated_u1 rated_u2) text ids fit = object_spelled _ (
  (refl, word_spelled (codes "TWO_WINDINGS") refl),
  (
    (refl, text),
    ((refl, ends_spelled (end1 ∷ end2 ∷ []) ((ids.1.0, fit.0), ((ids.1.1.0, fit.1.0), tt))), ((refl, rated_spelled (rated_u1 ∷ rated_u2 ∷ []) (fit.1.1.0, (fit.1.1.1.0, tt))), tt)),
  ),
)
branch_spelled id (ThreeWindings substation end1 end2 end3 rated_u1 rated_u2 rated_u3) text ids fit = object_spelled _ (
  (refl, word_spelled (codes "THREE_WINDINGS") refl),
  (
    (refl, text),
    (
      (refl, ends_spelled (end1 ∷ end2 ∷ end3 ∷ []) ((ids.1.0, fit.0), ((ids.1.1.0, fit.1.0), ((ids.1.1.1.0, fit.1.1.0), tt)))),
      ((refl, rated_spelled (rated_u1 ∷ rated_u2 ∷ rated_u3 ∷ []) (fit.1.1.1.0, (fit.1.1.1.1.0, (fit.1.1.1.1.1.0, tt)))), tt),
    ),
  ),
)

named_spelled : (b : NamedBranch) → BranchKeeps Id IsSigned b → IsSpelled (named_branch_value b)
named_spelled b keeps = branch_spelled b.id b.shape keeps.0.1 keeps.1 keeps.2

substation_spelled : (s : Substation) → SubstationKeeps Id IsSigned s → IsSpelled (substation_value s)
unfolding substation_value
substation_spelled s keeps = object_spelled _ (
  (refl, keeps.id.1),
  (
    (refl, array_spelled (LevelKeeps Id IsSigned) level_value level_spelled s.levels keeps.levels),
    ((refl, array_spelled (BranchKeeps Id IsSigned) named_branch_value named_spelled s.transformers keeps.transformers), tt),
  ),
)

network_spelled : (net : Network) → NetworkKeeps Id IsSigned net → IsSpelled (network_value net)
unfolding network_value
network_spelled net keeps = object_spelled _ (
  (refl, keeps.id.1),
  (
    (refl, array_spelled (SubstationKeeps Id IsSigned) substation_value substation_spelled net.substations keeps.substations),
    ((refl, array_spelled (BranchKeeps Id IsSigned) named_branch_value named_spelled net.lines keeps.lines), tt),
  ),
)

-- ---- commands

limits_spelled : (low high : Option ℤ) → AllByRecursion IsSigned (given_number low ++ given_number high) → FieldsAreSpelled (given (codes "low_v") whole low ++ given (codes "high_v") whole high)
limits_spelled None None fit = tt
limits_spelled None (Some z) fit = ((refl, whole_spelled z fit.0), tt)
limits_spelled (Some y) None fit = ((refl, whole_spelled y fit.0), tt)
limits_spelled (Some y) (Some z) fit = ((refl, whole_spelled y fit.0), ((refl, whole_spelled z fit.1.0), tt))

add_branch_spelled : (id : List ℕ) (shape : Branch) → IsUtf8 id → AllByRecursion Id (shape_ids shape) → AllByRecursion IsSigned (shape_numbers shape) → IsSpelled (add_branch_value id shape)
unfolding add_branch_value
add_branch_spelled id (Line end1 end2) text ids fit =
    object_spelled _ ((refl, word_spelled (codes "add_branch") refl), ((refl, word_spelled (codes "LINE") refl), ((refl, text), ((refl, ends_spelled (end1 ∷ end2 ∷ []) ((ids.0, fit.0), ((ids.1.0, fit.1.0), tt))), tt))))
add_branch_spelled id (TwoWindings substation end1 end2 rated_u1 rated_u2) text ids fit = object_spelled _ (
  (refl, word_spelled (codes "add_branch") refl),
  (
    (refl, word_spelled (codes "TWO_WINDINGS") refl),
    (
      (refl, text),
      (
        (refl, ends_spelled (end1 ∷ end2 ∷ []) ((ids.1.0, fit.0), ((ids.1.1.0, fit.1.0), tt))),
        ((refl, ids.0.1), ((refl, rated_spelled (rated_u1 ∷ rated_u2 ∷ []) (fit.1.1.0, (fit.1.1.1.0, tt))), tt)),
      ),
    ),
  ),
)
add_branch_spelled id (ThreeWindings substation end1 end2 end3 rated_u1 rated_u2 rated_u3) text ids fit = object_spelled _ (
  (refl, word_spelled (codes "add_branch") refl),
  (
    (refl, word_spelled (codes "THREE_WINDINGS") refl),
    (
      (refl, text),
      (
        (refl, ends_spelled (end1 ∷ end2 ∷ end3 ∷ []) ((ids.1.0, fit.0), ((ids.1.1.0, fit.1.0), ((ids.1.1.1.0, fit.1.1.0), tt)))),
        ((refl, ids.0.1), ((refl, rated_spelled (rated_u1 ∷ rated_u2 ∷ rated_u3 ∷ []) (fit.1.1.1.0, (fit.1.1.1.1.0, (fit.1.1.1.1.1.0, tt)))), tt)),
      ),
    ),
  ),
)

-- a command of one id
one_spelled : (verb name id : List ℕ) → are_ascii verb ≡ true → are_ascii name ≡ true → IsUtf8 id → IsSpelled (object_of ((codes "do", string verb) ∷ (name, string id) ∷ []))
one_spelled verb name id ascii1 ascii2 text = object_spelled _ ((refl, word_spelled verb ascii1), ((ascii2, text), tt))

edit_spelled : (edit : Edit) → EditKeeps Id IsSigned edit → IsSpelled (edit_value edit)
unfolding edit_value
edit_spelled (edits.AddSubstation id) keeps = one_spelled (codes "add_substation") (codes "id") id refl refl keeps.0.0.1
edit_spelled (edits.AddLevel id substation nominal_v low_v high_v) keeps =
    object_spelled _ ((refl, word_spelled (codes "add_level") refl), ((refl, keeps.0.0.1), ((refl, keeps.0.1.0.1), ((refl, whole_spelled nominal_v keeps.1.0), limits_spelled low_v high_v keeps.1.1))))
edit_spelled (edits.AddBusbar id level node) keeps = object_spelled _ ((refl, word_spelled (codes "add_busbar") refl), ((refl, keeps.0.0.1), ((refl, keeps.0.1.0.1), ((refl, whole_spelled node keeps.1.0), tt))))
edit_spelled (edits.AddSwitch id level kind node1 node2 opened retained fictitious) keeps = object_spelled _ (
  (refl, word_spelled (codes "add_switch") refl),
  (
    (refl, keeps.0.0.1),
    (
      (refl, keeps.0.1.0.1),
      (
        (refl, word_spelled (switch_word kind) (switch_word_ascii kind)),
        ((refl, whole_spelled node1 keeps.1.0), ((refl, whole_spelled node2 keeps.1.1.0), ((refl, tt), ((refl, tt), ((refl, tt), tt))))),
      ),
    ),
  ),
)
edit_spelled (edits.RemoveSwitch id) keeps = one_spelled (codes "remove_switch") (codes "id") id refl refl keeps.0.0.1
edit_spelled (edits.AddInternal level node1 node2) keeps =
    object_spelled _ ((refl, word_spelled (codes "add_internal") refl), ((refl, keeps.0.0.1), ((refl, whole_spelled node1 keeps.1.0), ((refl, whole_spelled node2 keeps.1.1.0), tt))))
edit_spelled (edits.RemoveInternal level node1 node2) keeps =
    object_spelled _ ((refl, word_spelled (codes "remove_internal") refl), ((refl, keeps.0.0.1), ((refl, whole_spelled node1 keeps.1.0), ((refl, whole_spelled node2 keeps.1.1.0), tt))))
edit_spelled (edits.AddInjection id level node x) keeps = object_spelled _ (
  (refl, word_spelled (codes "add_injection") refl),
  ((refl, word_spelled (injection_word x) (injection_word_ascii x)), ((refl, keeps.0.0.1), ((refl, keeps.0.1.0.1), ((refl, whole_spelled node keeps.1.0), item_spelled x keeps.1.1)))),
)
edit_spelled (edits.AddBranch id shape) keeps = add_branch_spelled id shape keeps.0.0.1 keeps.0.1 keeps.1
edit_spelled (edits.RemoveEquipment id) keeps = one_spelled (codes "remove_equipment") (codes "id") id refl refl keeps.0.0.1

request_spelled : (r : Request) → RequestKeeps Id IsSigned r → IsSpelled (request_value r)
unfolding request_value
request_spelled (requests.UseVariant name) keeps = one_spelled (codes "use") (codes "variant") name refl refl keeps.0.0.1
request_spelled (requests.OpenSwitch id) keeps = one_spelled (codes "open") (codes "switch") id refl refl keeps.0.0.1
request_spelled (requests.CloseSwitch id) keeps = one_spelled (codes "close") (codes "switch") id refl refl keeps.0.0.1
request_spelled (requests.RetainSwitch id retained) keeps = object_spelled _ ((refl, word_spelled (codes "retain") refl), ((refl, keeps.0.0.1), ((refl, tt), tt)))
request_spelled (requests.SetPower id watts) keeps = object_spelled _ ((refl, word_spelled (codes "set_power") refl), ((refl, keeps.0.0.1), ((refl, whole_spelled watts keeps.1.0), tt)))
request_spelled requests.Totals keeps = object_spelled _ ((refl, word_spelled (codes "totals") refl), tt)
request_spelled (requests.Connect id side) keeps = object_spelled _ ((refl, word_spelled (codes "connect") refl), ((refl, keeps.0.0.1), ((refl, whole_spelled side keeps.1.0), tt)))
request_spelled (requests.Disconnect id side) keeps = object_spelled _ ((refl, word_spelled (codes "disconnect") refl), ((refl, keeps.0.0.1), ((refl, whole_spelled side keeps.1.0), tt)))
request_spelled (requests.BusBreakerView level) keeps = one_spelled (codes "bus_breaker_view") (codes "level") level refl refl keeps.0.0.1
request_spelled (requests.BusView level) keeps = one_spelled (codes "bus_view") (codes "level") level refl refl keeps.0.0.1
request_spelled (requests.Components level) keeps = one_spelled (codes "components") (codes "level") level refl refl keeps.0.0.1
request_spelled (requests.CloneVariant from to overwrite) keeps = object_spelled _ ((refl, word_spelled (codes "clone") refl), ((refl, keeps.0.0.1), ((refl, keeps.0.1.0.1), ((refl, tt), tt))))
request_spelled (requests.RemoveVariant name) keeps = one_spelled (codes "remove") (codes "variant") name refl refl keeps.0.0.1
request_spelled (requests.Change edit) keeps = edit_spelled edit keeps

script_spelled : (script : List Request) → AllByRecursion (RequestKeeps Id IsSigned) script → IsSpelled (script_value script)
script_spelled script all = array_spelled (RequestKeeps Id IsSigned) request_value request_spelled script all

-- ---- listeners

kinds_spelled : (f : Filter) → IsSpelled (kinds_value f)
unfolding kinds_value
kinds_spelled f = items_spelled _
    (join IsSpelled _ _ (if_spelled f.created (codes "created") refl) (join IsSpelled _ _ (if_spelled f.removed (codes "removed") refl) (join IsSpelled _ _ (if_spelled f.updated (codes "updated") refl)
    (join IsSpelled _ _ (if_spelled f.variant_created (codes "variant_created") refl) (join IsSpelled _ _ (if_spelled f.variant_overwritten (codes "variant_overwritten") refl) (if_spelled f.variant_removed (codes "variant_removed") refl))))))

listener_spelled : (f : Filter) → IfSome f.variant Id → IsSpelled (listener_value f)
unfolding listener_value
listener_spelled f keeps = object_spelled _ ((refl, kinds_spelled f), given_spelled Id (codes "variant") string refl (λ id kept. kept.1) f.variant keeps)

-- ---- the order

-- few workers' numbers fit
workers_fit : (workers : ℕ) (order : List ℕ) → workers ≤ max_workers → list_all (is_worker workers) (map (λ k. pos k) order) ≡ true → AllByRecursion (λ n. n < 2 ^ 63) order
workers_fit workers [] few all = tt
workers_fit workers (k ∷ order) few all =
    let parts = and_parts (is_worker workers (pos k)) (list_all (is_worker workers) (map (λ m. pos m) order)) all in
    let below : k < workers = ltb-true k workers (and_parts (not (int_lt (pos k) (pos 0))) (int_lt (pos k) (pos workers)) parts.0).1 in
    (omega (arith, below, few), workers_fit workers order few parts.1)

order_spelled : (scripts : List (List Request)) (order : List ℕ) → length scripts ≤ max_workers → IsScheduleOf scripts order → IsSpelled (array_of natural order)
unfolding is_order
order_spelled scripts order few scheduled =
    let lengths = map length scripts in
    let workers : length lengths ≤ max_workers = rw (length_map length scripts) few in
    let parts = and_parts (list_all (is_worker (length lengths)) (map (λ k. pos k) order)) (counts_from 0 lengths (map (λ k. pos k) order)) scheduled in
    array_spelled (λ n. n < 2 ^ 63) natural natural_spelled order (workers_fit (length lengths) order workers parts.0)

-- ---- the job

format_fits : (format : Format) → number_of format < 2 ^ 63
format_fits One = omega arith
format_fits other = omega arith

pub job_spelled : (job : Job) → JobKeeps IsUtf8 job → IsSpelled (job_value job.network job.filters job.scripts job.order)
unfolding job_value
job_spelled job keeps =
    let least = least_has_all job.network job.scripts in
    let format : IsSpelled (natural (least_format job.network job.scripts)) = natural_spelled (least_format job.network job.scripts) (rw least.1.is (format_fits least.0)) in
    object_spelled _ (
      (refl, format),
      (
        (refl, network_spelled job.network keeps.network),
        (
          (refl, array_spelled (λ f. IfSome f.variant Id) listener_value listener_spelled job.filters keeps.filters.each),
          (
            (refl, array_spelled (λ script. AllByRecursion (RequestKeeps Id IsSigned) script) script_value script_spelled job.scripts keeps.scripts.each),
            given_spelled (IsScheduleOf job.scripts) (codes "order") (array_of natural) refl (λ order scheduled. order_spelled job.scripts order keeps.scripts.few scheduled) job.order keeps.order,
          ),
        ),
      ),
    )
