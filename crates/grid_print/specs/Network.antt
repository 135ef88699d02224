-- A network as JSON, member by member.
use Rattle.std.specs.Prelude.{ℕ, List, [], ◌∷◌, ◌++◌, codes, flat_map}
use Rattle.serde_json.specs.Data.{Data, boolean, string, array}
use Rattle.serde_json.specs.View.{items_of}
use Rattle.grid_kinds.specs.declared.Injection.{Injection}
use Rattle.grid_kinds.specs.declared.Injection.TheVariants.{Load, Generator, Battery, ShuntCompensator, StaticVarCompensator, ConverterStation}
use Rattle.grid_kinds.specs.declared.SwitchKind.{SwitchKind}
use Rattle.grid_kinds.specs.declared.SwitchKind.TheVariants.{Breaker, Disconnector, LoadBreakSwitch}
use Rattle.grid_level.specs.declared.Stand.{Stand}
use Rattle.grid_level.specs.declared.Stand.TheVariants.{Busbar, Feeder, BranchEnd}
use Rattle.grid_level.specs.declared.Placed.{Placed}
use Rattle.grid_level.specs.declared.Switch.{Switch}
use Rattle.grid_level.specs.declared.Internal.{Internal}
use Rattle.grid_level.specs.VoltageLevel.{VoltageLevel}
use Rattle.grid_structure.specs.declared.End.{End}
use Rattle.grid_structure.specs.declared.Branch.{Branch}
use Rattle.grid_structure.specs.declared.Branch.TheVariants.{Line, TwoWindings, ThreeWindings}
use Rattle.grid_structure.specs.declared.NamedBranch.{NamedBranch}
use Rattle.grid_structure.specs.Network.{Network, Substation}
use Rattle.grid_print.specs.Objects.{object_of, array_of, whole, natural, given}

-- ---- the parts of a level

abbrev pub switch_word : SwitchKind → List ℕ
switch_word Breaker = codes "BREAKER"
switch_word Disconnector = codes "DISCONNECTOR"
switch_word LoadBreakSwitch = codes "LOAD_BREAK_SWITCH"

abbrev pub injection_word : Injection → List ℕ
injection_word (Load p0 q0) = codes "LOAD"
injection_word (Generator target_p target_v min_p max_p) = codes "GENERATOR"
injection_word (Battery target_p target_q min_p max_p) = codes "BATTERY"
injection_word (ShuntCompensator section_count max_sections) = codes "SHUNT_COMPENSATOR"
injection_word (StaticVarCompensator target_q) = codes "STATIC_VAR_COMPENSATOR"
injection_word (ConverterStation target_q) = codes "CONVERTER_STATION"

-- the members of the kind
abbrev pub injection_fields : Injection → List (List ℕ × Data)
injection_fields (Load p0 q0) = (codes "p0", whole p0) ∷ (codes "q0", whole q0) ∷ []
injection_fields (Generator target_p target_v min_p max_p) =
    (codes "target_p", whole target_p) ∷ (codes "target_v", whole target_v) ∷ (codes "min_p", whole min_p) ∷ (codes "max_p", whole max_p) ∷ []
injection_fields (Battery target_p target_q min_p max_p) =
    (codes "target_p", whole target_p) ∷ (codes "target_q", whole target_q) ∷ (codes "min_p", whole min_p) ∷ (codes "max_p", whole max_p) ∷ []
injection_fields (ShuntCompensator section_count max_sections) = (codes "section_count", whole section_count) ∷ (codes "max_sections", whole max_sections) ∷ []
injection_fields (StaticVarCompensator target_q) = (codes "target_q", whole target_q) ∷ []
injection_fields (ConverterStation target_q) = (codes "target_q", whole target_q) ∷ []

abbrev pub busbar_value : List ℕ → ℕ → Data
busbar_value id node = object_of ((codes "id", string id) ∷ (codes "node", natural node) ∷ [])

abbrev pub injection_value : List ℕ → ℕ → Injection → Data
injection_value id node item =
    object_of ((codes "kind", string (injection_word item)) ∷ (codes "id", string id) ∷ (codes "node", natural node) ∷ injection_fields item)

-- the busbar section that stands at a node, where one does
abbrev pub busbar_of : List ℕ → ℕ → Stand → List Data
busbar_of id node Busbar = busbar_value id node ∷ []
busbar_of id node (Feeder item) = []
busbar_of id node BranchEnd = []

-- the injection that stands at a node, where one does
abbrev pub injection_of : List ℕ → ℕ → Stand → List Data
injection_of id node Busbar = []
injection_of id node (Feeder item) = injection_value id node item ∷ []
injection_of id node BranchEnd = []

-- busbar sections and injections stand by rising node, as all that is placed
unfoldable pub busbars_value : List Placed → Data
busbars_value placed = array (items_of (flat_map (λ p. busbar_of p.terminal.equipment p.node p.stand) placed))

unfoldable pub injections_value : List Placed → Data
injections_value placed = array (items_of (flat_map (λ p. injection_of p.terminal.equipment p.node p.stand) placed))

-- the flags are always written
unfoldable pub switch_value : Switch → Data
switch_value s = object_of
    ((codes "id", string s.id) ∷ (codes "kind", string (switch_word s.kind)) ∷ (codes "node1", natural s.node1) ∷ (codes "node2", natural s.node2)
    ∷ (codes "open", boolean s.opened) ∷ (codes "retained", boolean s.retained) ∷ (codes "fictitious", boolean s.fictitious) ∷ [])

unfoldable pub internal_value : Internal → Data
internal_value i = object_of ((codes "node1", natural i.node1) ∷ (codes "node2", natural i.node2) ∷ [])

-- the limits are written where they are given
unfoldable pub level_value : VoltageLevel → Data
level_value l = object_of
    ((codes "id", string l.id) ∷ (codes "nominal_v", whole l.nominal_v) ∷ (given (codes "low_v") whole l.low_v ++ (given (codes "high_v") whole l.high_v
    ++ ((codes "busbars", busbars_value l.placed) ∷ (codes "switches", array_of switch_value l.switches) ∷ (codes "internal", array_of internal_value l.internals)
    ∷ (codes "injections", injections_value l.placed) ∷ []))))

-- ---- branches

unfoldable pub end_value : End → Data
end_value e = object_of ((codes "level", string e.level) ∷ (codes "node", whole e.node) ∷ [])

abbrev pub transformer_value : List ℕ → List ℕ → Data → Data → Data
transformer_value word id ends rated_u = object_of ((codes "kind", string word) ∷ (codes "id", string id) ∷ (codes "ends", ends) ∷ (codes "rated_u", rated_u) ∷ [])

abbrev pub line_value : List ℕ → Data → Data
line_value id ends = object_of ((codes "id", string id) ∷ (codes "ends", ends) ∷ [])

-- a line has no kind and no rated voltages; a transformer's substation is the one that it stands in
unfoldable pub branch_value : List ℕ → Branch → Data
branch_value id (Line end1 end2) = line_value id (array_of end_value (end1 ∷ end2 ∷ []))
branch_value id (TwoWindings substation end1 end2 rated_u1 rated_u2) =
    transformer_value (codes "TWO_WINDINGS") id (array_of end_value (end1 ∷ end2 ∷ [])) (array_of whole (rated_u1 ∷ rated_u2 ∷ []))
branch_value id (ThreeWindings substation end1 end2 end3 rated_u1 rated_u2 rated_u3) =
    transformer_value (codes "THREE_WINDINGS") id (array_of end_value (end1 ∷ end2 ∷ end3 ∷ [])) (array_of whole (rated_u1 ∷ rated_u2 ∷ rated_u3 ∷ []))

abbrev pub named_branch_value : NamedBranch → Data
named_branch_value b = branch_value b.id b.shape

-- ---- the network

abbrev pub substation_of : List ℕ → Data → Data → Data
substation_of id levels transformers = object_of ((codes "id", string id) ∷ (codes "levels", levels) ∷ (codes "transformers", transformers) ∷ [])

unfoldable pub substation_value : Substation → Data
substation_value s = substation_of s.id (array_of level_value s.levels) (array_of named_branch_value s.transformers)

abbrev pub network_of : List ℕ → Data → Data → Data
network_of id substations lines = object_of ((codes "id", string id) ∷ (codes "substations", substations) ∷ (codes "lines", lines) ∷ [])

unfoldable pub network_value : Network → Data
network_value net = network_of net.id (array_of substation_value net.substations) (array_of named_branch_value net.lines)
