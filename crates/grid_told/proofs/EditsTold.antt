-- The value of an edit tells it.
use Rattle.std.proofs.Common.{◌≡◌, ℕ, zero, suc, ℤ, List, [], ◌∷◌, Bool, Option, Some, None, refl, ap, ap₂, ◌∙◌}
use Rattle.std.specs.Prelude.{codes, if◌then◌else◌, option_map}
use Rattle.std.specs.Str.{bytes_eq}
use Rattle.serde_json.specs.Data.{Data, null}
use Rattle.serde_json.specs.Find.{get}
use Rattle.grid_kinds.specs.declared.SwitchKind.{SwitchKind}
use Rattle.grid_kinds.specs.declared.SwitchKind.TheVariants.{Breaker, Disconnector, LoadBreakSwitch}
use Rattle.grid_kinds.specs.declared.Injection.{Injection}
use Rattle.grid_kinds.specs.declared.Injection.TheVariants.{Load, Generator, Battery, ShuntCompensator, StaticVarCompensator, ConverterStation}
use Rattle.grid_structure.specs.declared.End.{End}
use Rattle.grid_structure.specs.declared.Branch.{Branch}
use Rattle.grid_structure.specs.declared.Branch.TheVariants.{Line, TwoWindings, ThreeWindings}
use Rattle.grid_structure.specs.declared.Edit.{Edit}
use Rattle.grid_structure.specs.declared.Edit.TheVariants as edits
use Rattle.grid_print.specs.Objects.{members_from, whole}
use Rattle.grid_print.specs.Network.{end_value}
use Rattle.grid_print.specs.Command.{add_branch_value, edit_value}
use Rattle.grid_told.proofs.Fields.{text_of, flag_of, whole_of, list_of, at}
use Rattle.grid_told.proofs.Sums.{whole_back}

abbrev pub id_at : List ℕ → Data → List ℕ
id_at name d = text_of (at name d)

abbrev pub whole_at : List ℕ → Data → ℤ
whole_at name d = whole_of (at name d)

abbrev pub flag_at : List ℕ → Data → Bool
flag_at name d = flag_of (at name d)

-- ---- ends and branches

unfoldable pub end_in : Data → End
end_in d = record { level = id_at (codes "level") d; node = whole_at (codes "node") d }

end_back : (e : End) → end_in (end_value e) ≡ e
unfolding end_value members_from end_in
end_back e = ap (λ n. record { level = e.level; node = n }) (whole_back e.node)

abbrev pub nth : ℕ → List Data → Data
nth k [] = null
nth zero (d ∷ ds) = d
nth (suc k) (d ∷ ds) = nth k ds

abbrev pub end_of : ℕ → Data → End
end_of k d = end_in (nth k (list_of (at (codes "ends") d)))

abbrev pub rated_of : ℕ → Data → ℤ
rated_of k d = whole_of (nth k (list_of (at (codes "rated_u") d)))

unfoldable pub branch_by : List ℕ → Data → Branch
branch_by kind d =
    if bytes_eq kind (codes "LINE") then Line (end_of 0 d) (end_of 1 d)
    else if bytes_eq kind (codes "TWO_WINDINGS") then TwoWindings (id_at (codes "substation") d) (end_of 0 d) (end_of 1 d) (rated_of 0 d) (rated_of 1 d)
    else ThreeWindings (id_at (codes "substation") d) (end_of 0 d) (end_of 1 d) (end_of 2 d) (rated_of 0 d) (rated_of 1 d) (rated_of 2 d)

says_line : (d : Data) → branch_by (codes "LINE") d ≡ Line (end_of 0 d) (end_of 1 d)
unfolding branch_by
says_line d = refl

says_two : (d : Data) → branch_by (codes "TWO_WINDINGS") d ≡ TwoWindings (id_at (codes "substation") d) (end_of 0 d) (end_of 1 d) (rated_of 0 d) (rated_of 1 d)
unfolding branch_by
says_two d = refl

says_three : (d : Data) → branch_by (codes "THREE_WINDINGS") d
    ≡ ThreeWindings (id_at (codes "substation") d) (end_of 0 d) (end_of 1 d) (end_of 2 d) (rated_of 0 d) (rated_of 1 d) (rated_of 2 d)
unfolding branch_by
says_three d = refl

-- ---- kinds

unfoldable pub injection_by : List ℕ → Data → Injection
injection_by kind d =
    if bytes_eq kind (codes "LOAD") then Load (whole_at (codes "p0") d) (whole_at (codes "q0") d)
    else if bytes_eq kind (codes "GENERATOR") then Generator (whole_at (codes "target_p") d) (whole_at (codes "target_v") d) (whole_at (codes "min_p") d) (whole_at (codes "max_p") d)
    else if bytes_eq kind (codes "BATTERY") then Battery (whole_at (codes "target_p") d) (whole_at (codes "target_q") d) (whole_at (codes "min_p") d) (whole_at (codes "max_p") d)
    else if bytes_eq kind (codes "SHUNT_COMPENSATOR") then ShuntCompensator (whole_at (codes "section_count") d) (whole_at (codes "max_sections") d)
    else if bytes_eq kind (codes "STATIC_VAR_COMPENSATOR") then StaticVarCompensator (whole_at (codes "target_q") d)
    else ConverterStation (whole_at (codes "target_q") d)

says_load : (d : Data) → injection_by (codes "LOAD") d ≡ Load (whole_at (codes "p0") d) (whole_at (codes "q0") d)
unfolding injection_by
says_load d = refl

says_generator : (d : Data) → injection_by (codes "GENERATOR") d ≡ Generator (whole_at (codes "target_p") d) (whole_at (codes "target_v") d) (whole_at (codes "min_p") d) (whole_at (codes "max_p") d)
unfolding injection_by
says_generator d = refl

says_battery : (d : Data) → injection_by (codes "BATTERY") d ≡ Battery (whole_at (codes "target_p") d) (whole_at (codes "target_q") d) (whole_at (codes "min_p") d) (whole_at (codes "max_p") d)
unfolding injection_by
says_battery d = refl

says_shunt : (d : Data) → injection_by (codes "SHUNT_COMPENSATOR") d ≡ ShuntCompensator (whole_at (codes "section_count") d) (whole_at (codes "max_sections") d)
unfolding injection_by
says_shunt d = refl

says_static : (d : Data) → injection_by (codes "STATIC_VAR_COMPENSATOR") d ≡ StaticVarCompensator (whole_at (codes "target_q") d)
unfolding injection_by
says_static d = refl

says_station : (d : Data) → injection_by (codes "CONVERTER_STATION") d ≡ ConverterStation (whole_at (codes "target_q") d)
unfolding injection_by
says_station d = refl

unfoldable pub kind_by : List ℕ → SwitchKind
kind_by kind = if bytes_eq kind (codes "BREAKER") then Breaker else if bytes_eq kind (codes "DISCONNECTOR") then Disconnector else LoadBreakSwitch

-- ---- edits

unfoldable pub edit_by : List ℕ → Data → Edit
edit_by verb d =
    if bytes_eq verb (codes "add_substation") then edits.AddSubstation (id_at (codes "id") d)
    else if bytes_eq verb (codes "add_level") then edits.AddLevel (id_at (codes "id") d) (id_at (codes "substation") d) (whole_at (codes "nominal_v") d) (option_map whole_of (get (codes "low_v") d)) (option_map whole_of (get (codes "high_v") d))
    else if bytes_eq verb (codes "add_busbar") then edits.AddBusbar (id_at (codes "id") d) (id_at (codes "level") d) (whole_at (codes "node") d)
    else if bytes_eq verb (codes "add_switch") then edits.AddSwitch (id_at (codes "id") d) (id_at (codes "level") d) (kind_by (id_at (codes "kind") d)) (whole_at (codes "node1") d) (whole_at (codes "node2") d) (flag_at (codes "open") d) (flag_at (codes "retained") d) (flag_at (codes "fictitious") d)
    else if bytes_eq verb (codes "remove_switch") then edits.RemoveSwitch (id_at (codes "id") d)
    else if bytes_eq verb (codes "add_internal") then edits.AddInternal (id_at (codes "level") d) (whole_at (codes "node1") d) (whole_at (codes "node2") d)
    else if bytes_eq verb (codes "remove_internal") then edits.RemoveInternal (id_at (codes "level") d) (whole_at (codes "node1") d) (whole_at (codes "node2") d)
    else if bytes_eq verb (codes "add_injection") then edits.AddInjection (id_at (codes "id") d) (id_at (codes "level") d) (whole_at (codes "node") d) (injection_by (id_at (codes "kind") d) d)
    else if bytes_eq verb (codes "add_branch") then edits.AddBranch (id_at (codes "id") d) (branch_by (id_at (codes "kind") d) d)
    else edits.RemoveEquipment (id_at (codes "id") d)

abbrev pub edit_in : Data → Edit
edit_in d = edit_by (id_at (codes "do") d) d

says_substation : (d : Data) → edit_by (codes "add_substation") d ≡ edits.AddSubstation (id_at (codes "id") d)
unfolding edit_by
says_substation d = refl

says_level : (d : Data) → edit_by (codes "add_level") d
    ≡ edits.AddLevel (id_at (codes "id") d) (id_at (codes "substation") d) (whole_at (codes "nominal_v") d) (option_map whole_of (get (codes "low_v") d)) (option_map whole_of (get (codes "high_v") d))
unfolding edit_by
says_level d = refl

says_busbar : (d : Data) → edit_by (codes "add_busbar") d ≡ edits.AddBusbar (id_at (codes "id") d) (id_at (codes "level") d) (whole_at (codes "node") d)
unfolding edit_by
says_busbar d = refl

says_switch : (d : Data) → edit_by (codes "add_switch") d
    ≡ edits.AddSwitch (id_at (codes "id") d) (id_at (codes "level") d) (kind_by (id_at (codes "kind") d)) (whole_at (codes "node1") d) (whole_at (codes "node2") d) (flag_at (codes "open") d) (flag_at (codes "retained") d) (flag_at (codes "fictitious") d)
unfolding edit_by
says_switch d = refl

says_no_switch : (d : Data) → edit_by (codes "remove_switch") d ≡ edits.RemoveSwitch (id_at (codes "id") d)
unfolding edit_by
says_no_switch d = refl

says_internal : (d : Data) → edit_by (codes "add_internal") d ≡ edits.AddInternal (id_at (codes "level") d) (whole_at (codes "node1") d) (whole_at (codes "node2") d)
unfolding edit_by
says_internal d = refl

says_no_internal : (d : Data) → edit_by (codes "remove_internal") d ≡ edits.RemoveInternal (id_at (codes "level") d) (whole_at (codes "node1") d) (whole_at (codes "node2") d)
unfolding edit_by
says_no_internal d = refl

says_injection : (d : Data) → edit_by (codes "add_injection") d ≡ edits.AddInjection (id_at (codes "id") d) (id_at (codes "level") d) (whole_at (codes "node") d) (injection_by (id_at (codes "kind") d) d)
unfolding edit_by
says_injection d = refl

says_branch : (d : Data) → edit_by (codes "add_branch") d ≡ edits.AddBranch (id_at (codes "id") d) (branch_by (id_at (codes "kind") d) d)
unfolding edit_by
says_branch d = refl

says_no_equipment : (d : Data) → edit_by (codes "remove_equipment") d ≡ edits.RemoveEquipment (id_at (codes "id") d)
unfolding edit_by
says_no_equipment d = refl

-- ---- back

level_back : (id substation : List ℕ) (nominal_v : ℤ) (low_v high_v : Option ℤ) → edit_in (edit_value (edits.AddLevel id substation nominal_v low_v high_v)) ≡ edits.AddLevel id substation nominal_v low_v high_v
unfolding edit_value members_from
level_back id substation nominal_v None None = says_level (edit_value (edits.AddLevel id substation nominal_v None None)) ∙ ap (λ n. edits.AddLevel id substation n None None) (whole_back nominal_v)
level_back id substation nominal_v None (Some b) =
    says_level (edit_value (edits.AddLevel id substation nominal_v None (Some b))) ∙ ap₂ (λ n y. edits.AddLevel id substation n None (Some y)) (whole_back nominal_v) (whole_back b)
level_back id substation nominal_v (Some a) None =
    says_level (edit_value (edits.AddLevel id substation nominal_v (Some a) None)) ∙ ap₂ (λ n x. edits.AddLevel id substation n (Some x) None) (whole_back nominal_v) (whole_back a)
level_back id substation nominal_v (Some a) (Some b) =
    says_level (edit_value (edits.AddLevel id substation nominal_v (Some a) (Some b)))
    ∙ ap₂ (λ n x. edits.AddLevel id substation n (Some x) (Some (whole_of (whole b)))) (whole_back nominal_v) (whole_back a)
    ∙ ap (λ y. edits.AddLevel id substation nominal_v (Some a) (Some y)) (whole_back b)

kind_back : (id level : List ℕ) (kind : SwitchKind) (node1 node2 : ℤ) (opened retained fictitious : Bool)
    → kind_by (id_at (codes "kind") (edit_value (edits.AddSwitch id level kind node1 node2 opened retained fictitious))) ≡ kind
unfolding edit_value members_from kind_by
kind_back id level Breaker node1 node2 opened retained fictitious = refl
kind_back id level Disconnector node1 node2 opened retained fictitious = refl
kind_back id level LoadBreakSwitch node1 node2 opened retained fictitious = refl

switch_back : (id level : List ℕ) (kind : SwitchKind) (node1 node2 : ℤ) (opened retained fictitious : Bool)
    → edit_in (edit_value (edits.AddSwitch id level kind node1 node2 opened retained fictitious)) ≡ edits.AddSwitch id level kind node1 node2 opened retained fictitious
unfolding edit_value members_from
switch_back id level kind node1 node2 opened retained fictitious =
    says_switch (edit_value (edits.AddSwitch id level kind node1 node2 opened retained fictitious))
    ∙ ap (λ k. edits.AddSwitch id level k (whole_of (whole node1)) (whole_of (whole node2)) opened retained fictitious) (kind_back id level kind node1 node2 opened retained fictitious)
    ∙ ap₂ (λ m n. edits.AddSwitch id level kind m n opened retained fictitious) (whole_back node1) (whole_back node2)

item_back : (id level : List ℕ) (node : ℤ) (item : Injection) → injection_by (id_at (codes "kind") (edit_value (edits.AddInjection id level node item))) (edit_value (edits.AddInjection id level node item)) ≡ item
unfolding edit_value members_from
item_back id level node (Load p0 q0) = says_load (edit_value (edits.AddInjection id level node (Load p0 q0))) ∙ ap₂ Load (whole_back p0) (whole_back q0)
item_back id level node (Generator target_p target_v min_p max_p) =
    says_generator (edit_value (edits.AddInjection id level node (Generator target_p target_v min_p max_p)))
    ∙ ap₂ (λ a b. Generator a b (whole_of (whole min_p)) (whole_of (whole max_p))) (whole_back target_p) (whole_back target_v)
    ∙ ap₂ (λ a b. Generator target_p target_v a b) (whole_back min_p) (whole_back max_p)
item_back id level node (Battery target_p target_q min_p max_p) =
    says_battery (edit_value (edits.AddInjection id level node (Battery target_p target_q min_p max_p)))
    ∙ ap₂ (λ a b. Battery a b (whole_of (whole min_p)) (whole_of (whole max_p))) (whole_back target_p) (whole_back target_q)
    ∙ ap₂ (λ a b. Battery target_p target_q a b) (whole_back min_p) (whole_back max_p)
item_back id level node (ShuntCompensator section_count max_sections) =
    says_shunt (edit_value (edits.AddInjection id level node (ShuntCompensator section_count max_sections))) ∙ ap₂ ShuntCompensator (whole_back section_count) (whole_back max_sections)
item_back id level node (StaticVarCompensator target_q) = says_static (edit_value (edits.AddInjection id level node (StaticVarCompensator target_q))) ∙ ap StaticVarCompensator (whole_back target_q)
item_back id level node (ConverterStation target_q) = says_station (edit_value (edits.AddInjection id level node (ConverterStation target_q))) ∙ ap ConverterStation (whole_back target_q)

-- what every injection's edit says
pub injection_says : (id level : List ℕ) (node : ℤ) (item : Injection)
    → (id_at (codes "do") (edit_value (edits.AddInjection id level node item)) ≡ codes "add_injection")
    × ((id_at (codes "id") (edit_value (edits.AddInjection id level node item)) ≡ id)
    × ((id_at (codes "level") (edit_value (edits.AddInjection id level node item)) ≡ level) × (whole_at (codes "node") (edit_value (edits.AddInjection id level node item)) ≡ node)))
unfolding edit_value members_from
injection_says id level node (Load p0 q0) = (refl, (refl, (refl, whole_back node)))
injection_says id level node other = (refl, (refl, (refl, whole_back node)))

injection_back : (id level : List ℕ) (node : ℤ) (item : Injection) → edit_in (edit_value (edits.AddInjection id level node item)) ≡ edits.AddInjection id level node item
injection_back id level node item =
    let d = edit_value (edits.AddInjection id level node item) in
    let says = injection_says id level node item in
    ap (λ verb. edit_by verb d) says.0
    ∙ says_injection d
    ∙ ap₂ (λ a b. edits.AddInjection a b (whole_at (codes "node") d) (injection_by (id_at (codes "kind") d) d)) says.1.0 says.1.1.0
    ∙ ap₂ (edits.AddInjection id level) says.1.1.1 (item_back id level node item)

shape_back : (id : List ℕ) (shape : Branch) → branch_by (id_at (codes "kind") (edit_value (edits.AddBranch id shape))) (edit_value (edits.AddBranch id shape)) ≡ shape
unfolding edit_value add_branch_value members_from
shape_back id (Line end1 end2) = says_line (edit_value (edits.AddBranch id (Line end1 end2))) ∙ ap₂ Line (end_back end1) (end_back end2)
shape_back id (TwoWindings substation end1 end2 rated_u1 rated_u2) =
    says_two (edit_value (edits.AddBranch id (TwoWindings substation end1 end2 rated_u1 rated_u2)))
    ∙ ap₂ (λ a b. TwoWindings substation a b (whole_of (whole rated_u1)) (whole_of (whole rated_u2))) (end_back end1) (end_back end2)
    ∙ ap₂ (λ a b. TwoWindings substation end1 end2 a b) (whole_back rated_u1) (whole_back rated_u2)
shape_back id (ThreeWindings substation end1 end2 end3 rated_u1 rated_u2 rated_u3) =
    says_three (edit_value (edits.AddBranch id (ThreeWindings substation end1 end2 end3 rated_u1 rated_u2 rated_u3)))
    ∙ ap₂ (λ a b. ThreeWindings substation a b (end_in (end_value end3)) (whole_of (whole rated_u1)) (whole_of (whole rated_u2)) (whole_of (whole rated_u3))) (end_back end1) (end_back end2)
    ∙ ap₂ (λ a b. ThreeWindings substation end1 end2 a b (whole_of (whole rated_u2)) (whole_of (whole rated_u3))) (end_back end3) (whole_back rated_u1)
    ∙ ap₂ (λ a b. ThreeWindings substation end1 end2 end3 rated_u1 a b) (whole_back rated_u2) (whole_back rated_u3)

pub branch_says : (id : List ℕ) (shape : Branch) → (id_at (codes "do") (edit_value (edits.AddBranch id shape)) ≡ codes "add_branch") × (id_at (codes "id") (edit_value (edits.AddBranch id shape)) ≡ id)
unfolding edit_value add_branch_value members_from
branch_says id (Line end1 end2) = (refl, refl)
branch_says id (TwoWindings substation end1 end2 rated_u1 rated_u2) = (refl, refl)
branch_says id (ThreeWindings substation end1 end2 end3 rated_u1 rated_u2 rated_u3) = (refl, refl)

branch_back : (id : List ℕ) (shape : Branch) → edit_in (edit_value (edits.AddBranch id shape)) ≡ edits.AddBranch id shape
branch_back id shape =
    let d = edit_value (edits.AddBranch id shape) in
    let says = branch_says id shape in
    ap (λ verb. edit_by verb d) says.0 ∙ says_branch d ∙ ap₂ edits.AddBranch says.1 (shape_back id shape)

pub edit_back : (e : Edit) → edit_in (edit_value e) ≡ e
unfolding edit_value members_from
edit_back (edits.AddSubstation id) = says_substation (edit_value (edits.AddSubstation id))
edit_back (edits.AddLevel id substation nominal_v low_v high_v) = level_back id substation nominal_v low_v high_v
edit_back (edits.AddBusbar id level node) = says_busbar (edit_value (edits.AddBusbar id level node)) ∙ ap (edits.AddBusbar id level) (whole_back node)
edit_back (edits.AddSwitch id level kind node1 node2 opened retained fictitious) = switch_back id level kind node1 node2 opened retained fictitious
edit_back (edits.RemoveSwitch id) = says_no_switch (edit_value (edits.RemoveSwitch id))
edit_back (edits.AddInternal level node1 node2) = says_internal (edit_value (edits.AddInternal level node1 node2)) ∙ ap₂ (edits.AddInternal level) (whole_back node1) (whole_back node2)
edit_back (edits.RemoveInternal level node1 node2) = says_no_internal (edit_value (edits.RemoveInternal level node1 node2)) ∙ ap₂ (edits.RemoveInternal level) (whole_back node1) (whole_back node2)
edit_back (edits.AddInjection id level node item) = injection_back id level node item
edit_back (edits.AddBranch id shape) = branch_back id shape
edit_back (edits.RemoveEquipment id) = says_no_equipment (edit_value (edits.RemoveEquipment id))
