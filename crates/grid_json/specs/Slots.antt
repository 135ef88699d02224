-- What the slots of an object hold of the members that were found.
use Rattle.std.specs.Prelude.{◌≡◌, ℕ, ℤ, List, [], ◌∷◌, ◌++◌, Bool, true, not, unwrap_or, codes, is_some, Ok}
use Rattle.std.specs.List.{list_all, filter}
use Rattle.serde_json.specs.Data.{Data, Members, object}
use Rattle.serde_json.specs.Find.{get_member}
use Rattle.grid_kinds.specs.declared.Injection.{Injection}
use Rattle.grid_json.specs.declared.format.Format.{Format}
use Rattle.grid_json.specs.declared.format.Format.TheVariants.{One}
use Rattle.grid_json.specs.declared.kinds.InjectionKind.{InjectionKind}
use Rattle.grid_json.specs.declared.kinds.WindingsKind.{WindingsKind}
use Rattle.grid_json.specs.declared.buses.EndDraft.{EndDraft}
use Rattle.grid_json.specs.declared.network.Windings.{Windings}
use Rattle.grid_json.specs.declared.tokens.Both.{Both}
use Rattle.grid_json.specs.declared.slots.NodeSlots.{NodeSlots}
use Rattle.grid_json.specs.declared.slots.FlagSlots.{FlagSlots}
use Rattle.grid_json.specs.declared.slots.KindSlots.{KindSlots}
use Rattle.grid_json.specs.declared.slots.PlaceSlots.{PlaceSlots}
use Rattle.grid_json.specs.declared.injections.InjectionKindSlot.{InjectionKindSlot}
use Rattle.grid_json.specs.declared.injections.PowerSlots.{PowerSlots}
use Rattle.grid_json.specs.declared.injections.TargetSlots.{TargetSlots}
use Rattle.grid_json.specs.declared.injections.LimitSlots.{LimitSlots}
use Rattle.grid_json.specs.declared.injections.SectionSlots.{SectionSlots}
use Rattle.grid_json.specs.declared.slots.VoltageSlots.{VoltageSlots}
use Rattle.grid_json.specs.declared.slots.PartSlots.{PartSlots}
use Rattle.grid_json.specs.declared.slots.EndSlots.{EndSlots}
use Rattle.grid_json.specs.declared.slots.LineSlots.{LineSlots}
use Rattle.grid_json.specs.declared.slots.SubstationSlots.{SubstationSlots}
use Rattle.grid_json.specs.declared.slots.NetworkSlots.{NetworkSlots}
use Rattle.grid_json.specs.declared.injections.Figures.{Figures}
use Rattle.grid_json.specs.declared.stream.JobSlots.{JobSlots}
use Rattle.grid_json.specs.Reading.{id_at, whole_at, flag_at, array_at, member_at, knows}
use Rattle.grid_json.specs.Kinds.{switch_kind_at, injection_kind_at}
use Rattle.grid_json.specs.Network.{busbar_at, switch_at, internal_at, injection_at, any_level_at, transformer_at, substation_at, line_at, network_at, two_at, end_draft_at, item_names, item_at, windings_at}
use Rattle.grid_json.specs.Job.{format_at, listeners_at, workers_at}
use Rattle.grid_json.specs.Streams.{Holds}

-- the nodes of a switch or of an internal connection
abbrev pub node_names : List (List ℕ)
node_names = codes "node1" ∷ codes "node2" ∷ []

abbrev pub NodeHolds : Format → NodeSlots → Members → Type 0
NodeHolds format slots found = record {
  node1 : Holds whole_at (codes "node1") found slots.node1;
  node2 : Holds whole_at (codes "node2") found slots.node2;
}

-- the flags of a switch
abbrev pub flag_names : List (List ℕ)
flag_names = codes "open" ∷ codes "retained" ∷ codes "fictitious" ∷ []

abbrev pub FlagHolds : Format → FlagSlots → Members → Type 0
FlagHolds format slots found = record {
  opened : Holds flag_at (codes "open") found slots.opened;
  retained : Holds flag_at (codes "retained") found slots.retained;
  fictitious : Holds flag_at (codes "fictitious") found slots.fictitious;
}

-- the id and the kind of a switch
abbrev pub kind_names : List (List ℕ)
kind_names = codes "id" ∷ codes "kind" ∷ []

abbrev pub KindHolds : Format → KindSlots → Members → Type 0
KindHolds format slots found = record {
  id : Holds id_at (codes "id") found slots.id;
  kind : Holds (switch_kind_at format) (codes "kind") found slots.kind;
}

-- the id and the node of what stands at a node
abbrev pub place_names : List (List ℕ)
place_names = codes "id" ∷ codes "node" ∷ []

abbrev pub PlaceHolds : Format → PlaceSlots → Members → Type 0
PlaceHolds format slots found = record {
  id : Holds id_at (codes "id") found slots.id;
  node : Holds whole_at (codes "node") found slots.node;
}

-- the kind of an injection
abbrev pub injection_kind_names : List (List ℕ)
injection_kind_names = codes "kind" ∷ []

abbrev pub InjectionKindHolds : Format → InjectionKindSlot → Members → Type 0
InjectionKindHolds format slots found = record {
  kind : Holds (injection_kind_at format) (codes "kind") found slots.kind;
}

-- the powers of a load
abbrev pub power_names : List (List ℕ)
power_names = codes "p0" ∷ codes "q0" ∷ []

abbrev pub PowerHolds : Format → PowerSlots → Members → Type 0
PowerHolds format slots found = record {
  p0 : Holds whole_at (codes "p0") found slots.p0;
  q0 : Holds whole_at (codes "q0") found slots.q0;
}

-- what an injection aims at
abbrev pub target_names : List (List ℕ)
target_names = codes "target_p" ∷ codes "target_v" ∷ codes "target_q" ∷ []

abbrev pub TargetHolds : Format → TargetSlots → Members → Type 0
TargetHolds format slots found = record {
  target_p : Holds whole_at (codes "target_p") found slots.target_p;
  target_v : Holds whole_at (codes "target_v") found slots.target_v;
  target_q : Holds whole_at (codes "target_q") found slots.target_q;
}

-- the least and the greatest power of an injection
abbrev pub limit_names : List (List ℕ)
limit_names = codes "min_p" ∷ codes "max_p" ∷ []

abbrev pub LimitHolds : Format → LimitSlots → Members → Type 0
LimitHolds format slots found = record {
  min_p : Holds whole_at (codes "min_p") found slots.min_p;
  max_p : Holds whole_at (codes "max_p") found slots.max_p;
}

-- the sections of a shunt compensator
abbrev pub section_names : List (List ℕ)
section_names = codes "section_count" ∷ codes "max_sections" ∷ []

abbrev pub SectionHolds : Format → SectionSlots → Members → Type 0
SectionHolds format slots found = record {
  section_count : Holds whole_at (codes "section_count") found slots.section_count;
  max_sections : Holds whole_at (codes "max_sections") found slots.max_sections;
}

-- ---- the figures of an injection

abbrev pub FigureSlotsHold : Format → Both PowerSlots (Both TargetSlots (Both LimitSlots SectionSlots))
    → Members → Type 0
FigureSlotsHold format slots found =
    PowerHolds format slots.first found
    × (TargetHolds format slots.second.first found
    × (LimitHolds format slots.second.second.first found × SectionHolds format slots.second.second.second found))

abbrev pub FiguresHold : Format → Figures → Members → Type 0
FiguresHold format figures found = record {
  p0 : Holds whole_at (codes "p0") found figures.p0;
  q0 : Holds whole_at (codes "q0") found figures.q0;
  target_p : Holds whole_at (codes "target_p") found figures.target_p;
  target_v : Holds whole_at (codes "target_v") found figures.target_v;
  target_q : Holds whole_at (codes "target_q") found figures.target_q;
  min_p : Holds whole_at (codes "min_p") found figures.min_p;
  max_p : Holds whole_at (codes "max_p") found figures.max_p;
  section_count : Holds whole_at (codes "section_count") found figures.section_count;
  max_sections : Holds whole_at (codes "max_sections") found figures.max_sections;
}

abbrev pub figure_names : List (List ℕ)
figure_names = power_names ++ target_names ++ limit_names ++ section_names

-- the figures that only injections of other kinds have
abbrev pub other_names : InjectionKind → List (List ℕ)
other_names kind = filter (λ name. not (knows (item_names kind) name)) figure_names

-- no member has one of these names
abbrev pub has_none : List (List ℕ) → Members → Bool
has_none names found = list_all (λ name. not (is_some (get_member name found))) names

-- the figures that were found are just those of the kind, and this is their record
abbrev pub FiguresOf : InjectionKind → Figures → Injection → Type 0
FiguresOf kind figures item =
    (format : Format) → (found : Members) → FiguresHold format figures found
    → (item_at kind (object found) ≡ Ok item) × (has_none (other_names kind) found ≡ true)

-- the id and the voltages of a level
abbrev pub voltage_names : List (List ℕ)
voltage_names = codes "id" ∷ codes "nominal_v" ∷ codes "low_v" ∷ codes "high_v" ∷ []

abbrev pub VoltageHolds : Format → VoltageSlots → Members → Type 0
VoltageHolds format slots found = record {
  id : Holds id_at (codes "id") found slots.id;
  nominal_v : Holds whole_at (codes "nominal_v") found slots.nominal_v;
  low_v : Holds whole_at (codes "low_v") found slots.low_v;
  high_v : Holds whole_at (codes "high_v") found slots.high_v;
}

-- the parts of a level
abbrev pub part_names : List (List ℕ)
part_names = codes "busbars" ∷ codes "switches" ∷ codes "internal" ∷ codes "injections" ∷ []

abbrev pub PartHolds : Format → PartSlots → Members → Type 0
PartHolds format slots found = record {
  busbars : Holds (array_at busbar_at) (codes "busbars") found slots.busbars;
  switches : Holds (array_at (switch_at format)) (codes "switches") found slots.switches;
  internals : Holds (array_at internal_at) (codes "internal") found slots.internals;
  injections : Holds (array_at (injection_at format)) (codes "injections") found slots.injections;
}

-- an end at a node
abbrev pub end_names : List (List ℕ)
end_names = codes "level" ∷ codes "node" ∷ []

abbrev pub EndHolds : Format → EndSlots → Members → Type 0
EndHolds format slots found = record {
  level : Holds id_at (codes "level") found slots.level;
  node : Holds whole_at (codes "node") found slots.node;
}

-- the members of a line
abbrev pub line_names : List (List ℕ)
line_names = codes "id" ∷ codes "ends" ∷ []

abbrev pub LineHolds : Format → LineSlots → Members → Type 0
LineHolds format slots found = record {
  id : Holds id_at (codes "id") found slots.id;
  ends : Holds (two_at (end_draft_at format)) (codes "ends") found slots.ends;
}

-- the members of a substation
abbrev pub substation_names : List (List ℕ)
substation_names = codes "id" ∷ codes "levels" ∷ codes "transformers" ∷ []

abbrev pub SubstationHolds : Format → SubstationSlots → Members → Type 0
SubstationHolds format slots found = record {
  id : Holds id_at (codes "id") found slots.id;
  levels : Holds (array_at (any_level_at format)) (codes "levels") found slots.levels;
  transformers : Holds (array_at (transformer_at format)) (codes "transformers") found slots.transformers;
}

-- the members of a network
abbrev pub network_names : List (List ℕ)
network_names = codes "id" ∷ codes "substations" ∷ codes "lines" ∷ []

abbrev pub NetworkHolds : Format → NetworkSlots → Members → Type 0
NetworkHolds format slots found = record {
  id : Holds id_at (codes "id") found slots.id;
  substations : Holds (array_at (substation_at format)) (codes "substations") found slots.substations;
  lines : Holds (array_at (line_at format)) (codes "lines") found slots.lines;
}

abbrev pub job_names : List (List ℕ)
job_names = codes "format" ∷ codes "network" ∷ codes "listeners" ∷ codes "workers" ∷ codes "order" ∷ []

-- The format that was found is that of the other members. None of them is found before it.
abbrev pub JobHolds : Format → JobSlots → Members → Type 0
JobHolds first slots found = record {
  format : Holds (format_at One) (codes "format") found slots.format;
  network : Holds (network_at (unwrap_or slots.format One)) (codes "network") found slots.network;
  listeners : Holds (listeners_at (unwrap_or slots.format One)) (codes "listeners") found slots.listeners;
  workers : Holds (workers_at (unwrap_or slots.format One)) (codes "workers") found slots.workers;
  order : Holds (array_at whole_at) (codes "order") found slots.order;
}

-- the ends and the rated voltages that were found are those of the kind, and these are the windings
abbrev pub WindingsOf : WindingsKind → List EndDraft → List ℤ → Windings → Type 0
WindingsOf kind ends rated_u windings =
    (format : Format) (d : Data) → member_at (array_at (end_draft_at format)) (codes "ends") d ≡ Ok ends
    → member_at (array_at whole_at) (codes "rated_u") d ≡ Ok rated_u → windings_at format kind d ≡ Ok windings
