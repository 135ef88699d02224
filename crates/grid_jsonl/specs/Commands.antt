-- For private clauses: parts of commands, in the order in which their members stand.
use Rattle.std.specs.Prelude.{ℕ, List, [], ◌∷◌, codes}
use Rattle.serde_json.specs.Data.{Data}
use Rattle.serde_json.specs.Written.{compact_text}
use Rattle.grid_kinds.specs.declared.Injection.{Injection}
use Rattle.grid_kinds.specs.declared.Injection.TheVariants.{Load, Generator, Battery, ShuntCompensator, StaticVarCompensator, ConverterStation}
use Rattle.grid_structure.specs.declared.Edit.{Edit}
use Rattle.grid_structure.specs.declared.Edit.TheVariants.{AddLevel, AddSwitch}
use Rattle.grid_print.specs.Objects.{whole}
use Rattle.grid_print.specs.Command.{edit_value}

-- the members of an injection's kind whose names stand before `node`
unfoldable pub fields_before_node : Injection → List (List ℕ × Data)
fields_before_node (Load p0 q0) = []
fields_before_node (Generator target_p target_v min_p max_p) = (codes "max_p", whole max_p) ∷ (codes "min_p", whole min_p) ∷ []
fields_before_node (Battery target_p target_q min_p max_p) = (codes "max_p", whole max_p) ∷ (codes "min_p", whole min_p) ∷ []
fields_before_node (ShuntCompensator section_count max_sections) = (codes "max_sections", whole max_sections) ∷ []
fields_before_node (StaticVarCompensator target_q) = []
fields_before_node (ConverterStation target_q) = []

-- and those behind it
unfoldable pub fields_behind_node : Injection → List (List ℕ × Data)
fields_behind_node (Load p0 q0) = (codes "p0", whole p0) ∷ (codes "q0", whole q0) ∷ []
fields_behind_node (Generator target_p target_v min_p max_p) = (codes "target_p", whole target_p) ∷ (codes "target_v", whole target_v) ∷ []
fields_behind_node (Battery target_p target_q min_p max_p) = (codes "target_p", whole target_p) ∷ (codes "target_q", whole target_q) ∷ []
fields_behind_node (ShuntCompensator section_count max_sections) = (codes "section_count", whole section_count) ∷ []
fields_behind_node (StaticVarCompensator target_q) = (codes "target_q", whole target_q) ∷ []
fields_behind_node (ConverterStation target_q) = (codes "target_q", whole target_q) ∷ []

-- the text of an edit that adds a switch, and nothing for any other edit
unfoldable pub new_switch_text : Edit → List ℕ
new_switch_text (AddSwitch id level kind node1 node2 opened retained fictitious) = compact_text (edit_value (AddSwitch id level kind node1 node2 opened retained fictitious))
new_switch_text other = []

-- the text of an edit that adds a level, and nothing for any other edit
unfoldable pub new_level_text : Edit → List ℕ
new_level_text (AddLevel id substation nominal_v low_v high_v) = compact_text (edit_value (AddLevel id substation nominal_v low_v high_v))
new_level_text other = []
