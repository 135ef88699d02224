-- Commands as printing writes them, member by member.
use Rattle.std.proofs.Common.{◌≡◌, ◌≢◌, refl, ℕ, ℤ, List, [], ◌∷◌, ◌++◌, Bool, Option, None, Some}
use Rattle.std.specs.Prelude.{codes}
use Rattle.serde_json.specs.Data.{Data, boolean, string}
use Rattle.grid_kinds.specs.declared.Injection.{Injection}
use Rattle.grid_kinds.specs.declared.Injection.TheVariants.{Load, Generator, Battery, ShuntCompensator, StaticVarCompensator, ConverterStation}
use Rattle.grid_kinds.specs.declared.SwitchKind.{SwitchKind}
use Rattle.grid_structure.specs.declared.End.{End}
use Rattle.grid_structure.specs.declared.Edit.{Edit}
use Rattle.grid_structure.specs.declared.Edit.TheVariants.{AddSubstation, AddLevel, AddBusbar, AddSwitch, RemoveSwitch, AddInternal, RemoveInternal, AddInjection, AddBranch, RemoveEquipment}
use Rattle.grid_print.specs.Objects.{given, whole, members_from}
use Rattle.grid_print.specs.Network.{end_value, injection_word, switch_word}
use Rattle.grid_print.specs.Command.{add_injection_value, edit_value, transformer_edit, line_edit}
use Rattle.grid_jsonl.specs.Trees.{ordered}
use Rattle.grid_jsonl.specs.Commands.{fields_before_node, fields_behind_node, new_level_text, new_switch_text}

pub end_is : (e : End) → end_value e ≡ ordered ((codes "level", string e.level) ∷ (codes "node", whole e.node) ∷ [])
unfolding end_value members_from ordered
end_is e = refl

-- an injection's members, those of its kind on both sides of the node
pub injection_is : (id level : List ℕ) (node : ℤ) (item : Injection) → add_injection_value id level node item
    ≡ ordered ((codes "do", string (codes "add_injection")) ∷ ((((codes "id", string id) ∷ (codes "kind", string (injection_word item)) ∷ (codes "level", string level) ∷ [])
    ++ fields_before_node item) ++ (codes "node", whole node) ∷ []) ++ fields_behind_node item)
unfolding members_from ordered fields_before_node fields_behind_node
injection_is id level node (Load p0 q0) = refl
injection_is id level node other = refl

pub level_is : (id substation : List ℕ) (nominal_v : ℤ) (low_v high_v : Option ℤ) → edit_value (AddLevel id substation nominal_v low_v high_v)
    ≡ ordered ((codes "do", string (codes "add_level")) ∷ (((given (codes "high_v") whole high_v ++ (codes "id", string id) ∷ []) ++ given (codes "low_v") whole low_v)
    ++ (codes "nominal_v", whole nominal_v) ∷ []) ++ (codes "substation", string substation) ∷ [])
unfolding edit_value members_from ordered
level_is id substation nominal_v None None = refl
level_is id substation nominal_v None (Some high) = refl
level_is id substation nominal_v (Some low) None = refl
level_is id substation nominal_v (Some low) (Some high) = refl

pub switch_is : (id level : List ℕ) (kind : SwitchKind) (node1 node2 : ℤ) (opened retained fictitious : Bool) → edit_value (AddSwitch id level kind node1 node2 opened retained fictitious)
    ≡ ordered ((codes "do", string (codes "add_switch")) ∷ (codes "fictitious", boolean fictitious) ∷ (codes "id", string id) ∷ (codes "kind", string (switch_word kind))
    ∷ (codes "level", string level) ∷ (codes "node1", whole node1) ∷ (codes "node2", whole node2) ∷ (codes "open", boolean opened) ∷ (codes "retained", boolean retained) ∷ [])
unfolding edit_value members_from ordered
switch_is id level kind node1 node2 opened retained fictitious = refl

-- the three shapes of a branch

pub line_is : (id : List ℕ) (ends : Data) → line_edit id ends
    ≡ ordered ((codes "do", string (codes "add_branch")) ∷ (codes "ends", ends) ∷ (codes "id", string id) ∷ (codes "kind", string (codes "LINE")) ∷ [])
unfolding members_from ordered
line_is id ends = refl

pub transformer_is : (word id substation : List ℕ) (ends rated_u : Data) → transformer_edit word id substation ends rated_u
    ≡ ordered ((codes "do", string (codes "add_branch")) ∷ (codes "ends", ends) ∷ (codes "id", string id) ∷ (codes "kind", string word)
    ∷ (codes "rated_u", rated_u) ∷ (codes "substation", string substation) ∷ [])
unfolding members_from ordered
transformer_is word id substation ends rated_u = refl

-- an edit that adds no level, and one that adds no switch

pub no_level : (edit : Edit) → ((id substation : List ℕ) (nominal_v : ℤ) (low_v high_v : Option ℤ) → edit ≢ AddLevel id substation nominal_v low_v high_v) → new_level_text edit ≡ []
unfolding new_level_text
no_level (AddLevel id substation nominal_v low_v high_v) apart = absurd (apart id substation nominal_v low_v high_v refl)
no_level other apart = refl

pub no_switch : (edit : Edit) → ((id level : List ℕ) (kind : SwitchKind) (node1 node2 : ℤ) (opened retained fictitious : Bool) → edit ≢ AddSwitch id level kind node1 node2 opened retained fictitious) → new_switch_text edit ≡ []
unfolding new_switch_text
no_switch (AddSwitch id level kind node1 node2 opened retained fictitious) apart = absurd (apart id level kind node1 node2 opened retained fictitious refl)
no_switch other apart = refl
