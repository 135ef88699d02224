-- What is written has no float, and nests no deeper than a reader goes.
use Rattle.std.proofs.Common.{◌≡◌, ℕ, suc, ◌≤◌, ℤ, pos, negsuc, List, [], ◌∷◌, ◌++◌, Bool, true, false, Option, Some, None, Ordering, Less, Equal, Greater, refl, ap, map, arith}
use Rattle.std.proofs.lemmas.Bool.{or_from, or_parts}
use Rattle.std.specs.Prelude.{⊤}
use Rattle.std.specs.List.{flat_map}
use Rattle.std.specs.Ordering.{nat_cmp, match_ordering}
use Rattle.std.specs.Cmp.Lexicographic.{slice_cmp}
use Rattle.serde_json.specs.Data.{Data, string, array, Members, no_members, member, put, depth, members_depth}
use Rattle.serde_json.specs.View.{items_of}
use Rattle.serde_json.specs.Read.{max_depth}
use Rattle.serde_json.specs.Written.{has_float, items_have_float, members_have_float}
use Rattle.grid_kinds.specs.declared.Injection.{Injection}
use Rattle.grid_kinds.specs.declared.Injection.TheVariants.{Load, Generator, Battery, ShuntCompensator, StaticVarCompensator, ConverterStation}
use Rattle.grid_level.specs.declared.Stand.{Stand}
use Rattle.grid_level.specs.declared.Stand.TheVariants.{Busbar, Feeder, BranchEnd}
use Rattle.grid_level.specs.declared.Placed.{Placed}
use Rattle.grid_level.specs.declared.Switch.{Switch}
use Rattle.grid_level.specs.declared.Internal.{Internal}
use Rattle.grid_level.specs.VoltageLevel.{VoltageLevel}
use Rattle.grid_structure.specs.declared.End.{End}
use Rattle.grid_structure.specs.declared.Branch.{Branch}
use Rattle.grid_structure.specs.declared.Branch.TheVariants.{Line, TwoWindings, ThreeWindings}
use Rattle.grid_structure.specs.declared.NamedBranch.{NamedBranch}
use Rattle.grid_structure.specs.declared.Edit.{Edit}
use Rattle.grid_structure.specs.declared.Edit.TheVariants as edits
use Rattle.grid_structure.specs.Network.{Network, Substation}
use Rattle.grid_requests.specs.declared.request.Request.{Request}
use Rattle.grid_requests.specs.declared.request.Request.TheVariants as requests
use Rattle.grid_events.specs.declared.filter.Filter.{Filter}
use Rattle.grid_print.specs.Objects.{members_from, object_of, array_of, whole, natural, given, word_if}
use Rattle.grid_print.specs.Network as network
use Rattle.grid_print.specs.Command as command
use Rattle.grid_print.specs.Job as job

pub record IsPlain (n : ℕ) (d : Data) : Type 0 where
  pub float : has_float d ≡ false
  pub within : depth d ≤ n

pub record MembersArePlain (n : ℕ) (ms : Members) : Type 0 where
  pub float : members_have_float ms ≡ false
  pub within : members_depth ms ≤ n

abbrev ArePlain : ℕ → List Data → Type 0
ArePlain n [] = ⊤
ArePlain n (d ∷ ds) = IsPlain n d × ArePlain n ds

-- the values of members
abbrev FieldsArePlain : ℕ → List (List ℕ × Data) → Type 0
FieldsArePlain n [] = ⊤
FieldsArePlain n (f ∷ fields) = IsPlain n f.1 × FieldsArePlain n fields

leaf : {n : ℕ} {d : Data} → ◌≡◌ {A = Bool × ℕ} (has_float d, depth d) (false, 0) → IsPlain n d
leaf {n} {d} e =
    let flat : depth d ≡ 0 = ap (λ p. p.1) e in
    record { float = ap (λ p. p.0) e; within = omega (arith, flat) }

deeper : (n m : ℕ) (d : Data) → n ≤ m → IsPlain n d → IsPlain m d
deeper n m d more h = record { float = h.float; within = omega (arith, h.within) }

member_plain : (n : ℕ) (k : List ℕ) (d : Data) (ms : Members) → IsPlain n d → MembersArePlain n ms → MembersArePlain n (member k d ms)
member_plain n k d ms new old = record { float = or_from (has_float d) (members_have_float ms) new.float old.float; within = omega (arith, new.within, old.within) }

first_plain : (n : ℕ) (k : List ℕ) (d : Data) (ms : Members) → MembersArePlain n (member k d ms) → IsPlain n d × MembersArePlain n ms
first_plain n k d ms old =
    let floats = or_parts (has_float d) (members_have_float ms) old.float in
    (record { float = floats.0; within = omega (arith, old.within) }, record { float = floats.1; within = omega (arith, old.within) })

one_of : (n : ℕ) (o : Ordering) (a b c : Members) → MembersArePlain n a → MembersArePlain n b → MembersArePlain n c → MembersArePlain n (match_ordering o a b c)
one_of n Less a b c x y z = x
one_of n Equal a b c x y z = y
one_of n Greater a b c x y z = z

put_plain : (n : ℕ) (k : List ℕ) (d : Data) (ms : Members) → IsPlain n d → MembersArePlain n ms → MembersArePlain n (put k d ms)
put_plain n k d no_members new old = member_plain n k d no_members new old
put_plain n k d (member l e ms) new old =
    let parts = first_plain n l e ms old in
    one_of n (slice_cmp nat_cmp k l) (member k d (member l e ms)) (member l d ms) (member l e (put k d ms))
    (member_plain n k d (member l e ms) new old) (member_plain n l d ms new parts.1) (member_plain n l e (put k d ms) parts.0 (put_plain n k d ms new parts.1))

members_plain : (n : ℕ) (ms : Members) (fields : List (List ℕ × Data)) → MembersArePlain n ms → FieldsArePlain n fields → MembersArePlain n (members_from ms fields)
unfolding members_from
members_plain n ms [] old new = old
members_plain n ms (f ∷ fields) old new = members_plain n (put f.0 f.1 ms) fields (put_plain n f.0 f.1 ms new.0 old) new.1

object_plain : (n : ℕ) (fields : List (List ℕ × Data)) → FieldsArePlain n fields → IsPlain (suc n) (object_of fields)
object_plain n fields new =
    let h = members_plain n no_members fields (record { float = refl; within = omega arith }) new in
    record { float = h.float; within = omega (arith, h.within) }

fields_append : (n : ℕ) (xs ys : List (List ℕ × Data)) → FieldsArePlain n xs → FieldsArePlain n ys → FieldsArePlain n (xs ++ ys)
fields_append n [] ys left right = right
fields_append n (x ∷ xs) ys left right = (left.0, fields_append n xs ys left.1 right)

append_plain : (n : ℕ) (xs ys : List Data) → ArePlain n xs → ArePlain n ys → ArePlain n (xs ++ ys)
append_plain n [] ys left right = right
append_plain n (x ∷ xs) ys left right = (left.0, append_plain n xs ys left.1 right)

items_plain : (n : ℕ) (ds : List Data) → ArePlain n ds → IsPlain (suc n) (array (items_of ds))
items_plain n [] h = record { float = refl; within = omega arith }
items_plain n (d ∷ ds) h =
    let later = items_plain n ds h.1 in
    record { float = or_from (has_float d) (items_have_float (items_of ds)) h.0.float later.float; within = omega (arith, h.0.within, later.within) }

map_plain : {A : Type 0} (n : ℕ) (written : A → Data) → ((x : A) → IsPlain n (written x)) → (xs : List A) → ArePlain n (map written xs)
map_plain n written each [] = tt
map_plain n written each (x ∷ xs) = (each x, map_plain n written each xs)

array_plain : {A : Type 0} (n : ℕ) (written : A → Data) → ((x : A) → IsPlain n (written x)) → (xs : List A) → IsPlain (suc n) (array_of written xs)
array_plain n written each xs = items_plain n (map written xs) (map_plain n written each xs)

flat_plain : {A : Type 0} (n : ℕ) (written : A → List Data) → ((x : A) → ArePlain n (written x)) → (xs : List A) → ArePlain n (flat_map written xs)
flat_plain n written each [] = tt
flat_plain n written each (x ∷ xs) = append_plain n (written x) _ (each x) (flat_plain n written each xs)

whole_plain : (n : ℕ) (z : ℤ) → IsPlain n (whole z)
whole_plain n (pos k) = leaf refl
whole_plain n (negsuc k) = leaf refl

given_plain : {A : Type 0} (n : ℕ) (name : List ℕ) (written : A → Data) → ((x : A) → IsPlain n (written x)) → (o : Option A) → FieldsArePlain n (given name written o)
given_plain n name written each None = tt
given_plain n name written each (Some x) = (each x, tt)

word_plain : (n : ℕ) (b : Bool) (word : List ℕ) → ArePlain n (word_if b word)
word_plain n true word = (leaf refl, tt)
word_plain n false word = tt

-- ---- networks

item_plain : (n : ℕ) (item : Injection) → FieldsArePlain n (network.injection_fields item)
item_plain n (Load p0 q0) = (whole_plain n p0, (whole_plain n q0, tt))
item_plain n (Generator target_p target_v min_p max_p) = (whole_plain n target_p, (whole_plain n target_v, (whole_plain n min_p, (whole_plain n max_p, tt))))
item_plain n (Battery target_p target_q min_p max_p) = (whole_plain n target_p, (whole_plain n target_q, (whole_plain n min_p, (whole_plain n max_p, tt))))
item_plain n (ShuntCompensator section_count max_sections) = (whole_plain n section_count, (whole_plain n max_sections, tt))
item_plain n (StaticVarCompensator target_q) = (whole_plain n target_q, tt)
item_plain n (ConverterStation target_q) = (whole_plain n target_q, tt)

busbar_plain : (id : List ℕ) (node : ℕ) (stand : Stand) → ArePlain 1 (network.busbar_of id node stand)
busbar_plain id node Busbar = (object_plain 0 _ (leaf refl, (leaf refl, tt)), tt)
busbar_plain id node (Feeder item) = tt
busbar_plain id node BranchEnd = tt

injection_plain : (id : List ℕ) (node : ℕ) (stand : Stand) → ArePlain 1 (network.injection_of id node stand)
injection_plain id node Busbar = tt
injection_plain id node (Feeder item) = (object_plain 0 _ (leaf refl, (leaf refl, (leaf refl, item_plain 0 item))), tt)
injection_plain id node BranchEnd = tt

busbars_plain : (placed : List Placed) → IsPlain 2 (network.busbars_value placed)
unfolding network.busbars_value
busbars_plain placed = items_plain 1 _ (flat_plain 1 _ (λ p. busbar_plain p.terminal.equipment p.node p.stand) placed)

injections_plain : (placed : List Placed) → IsPlain 2 (network.injections_value placed)
unfolding network.injections_value
injections_plain placed = items_plain 1 _ (flat_plain 1 _ (λ p. injection_plain p.terminal.equipment p.node p.stand) placed)

switch_plain : (s : Switch) → IsPlain 1 (network.switch_value s)
unfolding network.switch_value
switch_plain s = object_plain 0 _ (leaf refl, (leaf refl, (leaf refl, (leaf refl, (leaf refl, (leaf refl, (leaf refl, tt)))))))

internal_plain : (i : Internal) → IsPlain 1 (network.internal_value i)
unfolding network.internal_value
internal_plain i = object_plain 0 _ (leaf refl, (leaf refl, tt))

level_plain : (l : VoltageLevel) → IsPlain 3 (network.level_value l)
unfolding network.level_value
level_plain l = object_plain 2 _ (
  leaf refl,
  (
    whole_plain 2 l.nominal_v,
    fields_append 2 _ _ (given_plain 2 _ whole (whole_plain 2) l.low_v) (fields_append 2 _ _ (given_plain 2 _ whole (whole_plain 2) l.high_v)
        (busbars_plain l.placed, (array_plain 1 network.switch_value switch_plain l.switches, (array_plain 1 network.internal_value internal_plain l.internals, (injections_plain l.placed, tt))))),
  ),
)

end_plain : (e : End) → IsPlain 1 (network.end_value e)
unfolding network.end_value
end_plain e = object_plain 0 _ (leaf refl, (whole_plain 0 e.node, tt))

branch_plain : (id : List ℕ) (shape : Branch) → IsPlain 3 (network.branch_value id shape)
unfolding network.branch_value
branch_plain id (Line end1 end2) = object_plain 2 _ (leaf refl, (array_plain 1 network.end_value end_plain (end1 ∷ end2 ∷ []), tt))
branch_plain id (TwoWindings substation end1 end2 rated_u1 rated_u2) =
    object_plain 2 _ (leaf refl, (leaf refl, (array_plain 1 network.end_value end_plain (end1 ∷ end2 ∷ []), (array_plain 1 whole (whole_plain 1) (rated_u1 ∷ rated_u2 ∷ []), tt))))
branch_plain id (ThreeWindings substation end1 end2 end3 rated_u1 rated_u2 rated_u3) =
    object_plain 2 _ (leaf refl, (leaf refl, (array_plain 1 network.end_value end_plain (end1 ∷ end2 ∷ end3 ∷ []), (array_plain 1 whole (whole_plain 1) (rated_u1 ∷ rated_u2 ∷ rated_u3 ∷ []), tt))))

named_plain : (b : NamedBranch) → IsPlain 3 (network.named_branch_value b)
named_plain b = branch_plain b.id b.shape

substation_plain : (s : Substation) → IsPlain 5 (network.substation_value s)
unfolding network.substation_value
substation_plain s = object_plain 4 _ (leaf refl, (array_plain 3 network.level_value level_plain s.levels, (array_plain 3 network.named_branch_value named_plain s.transformers, tt)))

network_plain : (net : Network) → IsPlain 7 (network.network_value net)
unfolding network.network_value
network_plain net = object_plain 6 _ (leaf refl, (array_plain 5 network.substation_value substation_plain net.substations, (array_plain 5 network.named_branch_value (λ b. deeper 3 5 _ (omega arith) (named_plain b)) net.lines, tt)))

-- ---- commands

add_branch_plain : (id : List ℕ) (shape : Branch) → IsPlain 3 (command.add_branch_value id shape)
unfolding command.add_branch_value
add_branch_plain id (Line end1 end2) = object_plain 2 _ (leaf refl, (leaf refl, (leaf refl, (array_plain 1 network.end_value end_plain (end1 ∷ end2 ∷ []), tt))))
add_branch_plain id (TwoWindings substation end1 end2 rated_u1 rated_u2) =
    object_plain 2 _ (leaf refl, (leaf refl, (leaf refl, (array_plain 1 network.end_value end_plain (end1 ∷ end2 ∷ []), (leaf refl, (array_plain 1 whole (whole_plain 1) (rated_u1 ∷ rated_u2 ∷ []), tt))))))
add_branch_plain id (ThreeWindings substation end1 end2 end3 rated_u1 rated_u2 rated_u3) =
    object_plain 2 _ (leaf refl, (leaf refl, (leaf refl, (array_plain 1 network.end_value end_plain (end1 ∷ end2 ∷ end3 ∷ []), (leaf refl, (array_plain 1 whole (whole_plain 1) (rated_u1 ∷ rated_u2 ∷ rated_u3 ∷ []), tt))))))

edit_plain : (edit : Edit) → IsPlain 3 (command.edit_value edit)
unfolding command.edit_value
edit_plain (edits.AddSubstation id) = object_plain 2 _ (leaf refl, (leaf refl, tt))
edit_plain (edits.AddLevel id substation nominal_v low_v high_v) = object_plain 2 _
    (leaf refl, (leaf refl, (leaf refl, (whole_plain 2 nominal_v, fields_append 2 _ _ (given_plain 2 _ whole (whole_plain 2) low_v) (given_plain 2 _ whole (whole_plain 2) high_v)))))
edit_plain (edits.AddBusbar id level node) = object_plain 2 _ (leaf refl, (leaf refl, (leaf refl, (whole_plain 2 node, tt))))
edit_plain (edits.AddSwitch id level kind node1 node2 opened retained fictitious) = object_plain 2 _
    (leaf refl, (leaf refl, (leaf refl, (leaf refl, (whole_plain 2 node1, (whole_plain 2 node2, (leaf refl, (leaf refl, (leaf refl, tt)))))))))
edit_plain (edits.RemoveSwitch id) = object_plain 2 _ (leaf refl, (leaf refl, tt))
edit_plain (edits.AddInternal level node1 node2) = object_plain 2 _ (leaf refl, (leaf refl, (whole_plain 2 node1, (whole_plain 2 node2, tt))))
edit_plain (edits.RemoveInternal level node1 node2) = object_plain 2 _ (leaf refl, (leaf refl, (whole_plain 2 node1, (whole_plain 2 node2, tt))))
edit_plain (edits.AddInjection id level node item) = object_plain 2 _ (leaf refl, (leaf refl, (leaf refl, (leaf refl, (whole_plain 2 node, item_plain 2 item)))))
edit_plain (edits.AddBranch id shape) = add_branch_plain id shape
edit_plain (edits.RemoveEquipment id) = object_plain 2 _ (leaf refl, (leaf refl, tt))

request_plain : (request : Request) → IsPlain 3 (command.request_value request)
unfolding command.request_value
request_plain (requests.UseVariant name) = object_plain 2 _ (leaf refl, (leaf refl, tt))
request_plain (requests.OpenSwitch id) = object_plain 2 _ (leaf refl, (leaf refl, tt))
request_plain (requests.CloseSwitch id) = object_plain 2 _ (leaf refl, (leaf refl, tt))
request_plain (requests.RetainSwitch id retained) = object_plain 2 _ (leaf refl, (leaf refl, (leaf refl, tt)))
request_plain (requests.SetPower id watts) = object_plain 2 _ (leaf refl, (leaf refl, (whole_plain 2 watts, tt)))
request_plain requests.Totals = object_plain 2 _ (leaf refl, tt)
request_plain (requests.Connect id side) = object_plain 2 _ (leaf refl, (leaf refl, (whole_plain 2 side, tt)))
request_plain (requests.Disconnect id side) = object_plain 2 _ (leaf refl, (leaf refl, (whole_plain 2 side, tt)))
request_plain (requests.BusBreakerView level) = object_plain 2 _ (leaf refl, (leaf refl, tt))
request_plain (requests.BusView level) = object_plain 2 _ (leaf refl, (leaf refl, tt))
request_plain (requests.Components level) = object_plain 2 _ (leaf refl, (leaf refl, tt))
request_plain (requests.CloneVariant from to overwrite) = object_plain 2 _ (leaf refl, (leaf refl, (leaf refl, (leaf refl, tt))))
request_plain (requests.RemoveVariant name) = object_plain 2 _ (leaf refl, (leaf refl, tt))
request_plain (requests.Change edit) = edit_plain edit

-- ---- jobs

kinds_plain : (f : Filter) → IsPlain 1 (job.kinds_value f)
unfolding job.kinds_value
kinds_plain f = items_plain 0 _
    (append_plain 0 _ _ (word_plain 0 f.created _) (append_plain 0 _ _ (word_plain 0 f.removed _) (append_plain 0 _ _ (word_plain 0 f.updated _)
    (append_plain 0 _ _ (word_plain 0 f.variant_created _) (append_plain 0 _ _ (word_plain 0 f.variant_overwritten _) (word_plain 0 f.variant_removed _))))))

listener_plain : (f : Filter) → IsPlain 2 (job.listener_value f)
unfolding job.listener_value
listener_plain f = object_plain 1 _ (kinds_plain f, given_plain 1 _ string (λ s. leaf refl) f.variant)

job_is_plain : (net : Network) (filters : List Filter) (scripts : List (List Request)) (order : Option (List ℕ)) → IsPlain 8 (job.job_value net filters scripts order)
unfolding job.job_value
job_is_plain net filters scripts order = object_plain 7 _ (leaf refl, (network_plain net, (array_plain 6 job.listener_value (λ f. deeper 2 6 _ (omega arith) (listener_plain f)) filters, (array_plain 6 job.script_value (λ script. deeper 4 6 _ (omega arith) (array_plain 3 command.request_value request_plain script)) scripts, given_plain 7 _ (array_of natural) (array_plain 6 natural (λ n. leaf refl)) order))))

pub job_has_no_float : (net : Network) (filters : List Filter) (scripts : List (List Request)) (order : Option (List ℕ)) → has_float (job.job_value net filters scripts order) ≡ false
job_has_no_float net filters scripts order = (job_is_plain net filters scripts order).float

pub job_is_shallow : (net : Network) (filters : List Filter) (scripts : List (List Request)) (order : Option (List ℕ)) → depth (job.job_value net filters scripts order) ≤ max_depth
job_is_shallow net filters scripts order = omega (arith, (job_is_plain net filters scripts order).within)
