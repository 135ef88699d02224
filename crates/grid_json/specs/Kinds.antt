-- The words of the kinds.
use Rattle.std.specs.Prelude.{[], ◌∷◌, Result, Ok, Err, List, ℕ, codes}
use Rattle.serde_json.specs.Data.{Data}
use Rattle.grid_kinds.specs.declared.SwitchKind.{SwitchKind}
use Rattle.grid_kinds.specs.declared.SwitchKind.TheVariants.{Breaker, Disconnector, LoadBreakSwitch}
use Rattle.grid_json.specs.declared.fault.Fault.{Fault}
use Rattle.grid_json.specs.declared.fault.Reason.TheVariants.{Unknown}
use Rattle.grid_json.specs.declared.format.Format.{Format}
use Rattle.grid_json.specs.declared.format.Format.TheVariants as formats
use Rattle.grid_json.specs.declared.kinds.InjectionKind.{InjectionKind}
use Rattle.grid_json.specs.declared.kinds.InjectionKind.TheVariants as injections
use Rattle.grid_json.specs.declared.kinds.WindingsKind.{WindingsKind}
use Rattle.grid_json.specs.declared.kinds.WindingsKind.TheVariants as windings
use Rattle.grid_json.specs.declared.kinds.Topology.{Topology}
use Rattle.grid_json.specs.declared.kinds.Topology.TheVariants as topologies
use Rattle.grid_json.specs.declared.kinds.BranchKind.{BranchKind}
use Rattle.grid_json.specs.declared.kinds.BranchKind.TheVariants as branches
use Rattle.grid_json.specs.declared.kinds.EventKind.{EventKind}
use Rattle.grid_json.specs.declared.kinds.EventKind.TheVariants as events
use Rattle.grid_json.specs.Reading.{◌>>=◌, here, word_at}

abbrev pub switch_words : List (List ℕ × SwitchKind)
switch_words = (codes "BREAKER", Breaker) ∷ (codes "DISCONNECTOR", Disconnector) ∷ (codes "LOAD_BREAK_SWITCH", LoadBreakSwitch) ∷ []

abbrev pub switch_kind_at : Format → Data → Result SwitchKind Fault
switch_kind_at format = word_at switch_words

abbrev pub injection_words : List (List ℕ × InjectionKind)
injection_words =
    (codes "LOAD", injections.Load) ∷ (codes "GENERATOR", injections.Generator) ∷ (codes "BATTERY", injections.Battery)
    ∷ (codes "SHUNT_COMPENSATOR", injections.ShuntCompensator) ∷ (codes "STATIC_VAR_COMPENSATOR", injections.StaticVarCompensator)
    ∷ (codes "CONVERTER_STATION", injections.ConverterStation) ∷ []

-- converter stations came with the fourth format
abbrev pub known_injection : InjectionKind → Format → Result InjectionKind Fault
known_injection injections.ConverterStation formats.One = Err (here Unknown)
known_injection injections.ConverterStation formats.Two = Err (here Unknown)
known_injection injections.ConverterStation formats.Three = Err (here Unknown)
known_injection kind format = Ok kind

abbrev pub injection_kind_at : Format → Data → Result InjectionKind Fault
injection_kind_at format d = word_at injection_words d >>= λ kind. known_injection kind format

-- how the parts of a level are joined: by nodes, or by configured buses
abbrev pub topology_words : List (List ℕ × Topology)
topology_words = (codes "NODE_BREAKER", topologies.Nodes) ∷ (codes "BUS_BREAKER", topologies.Buses) ∷ []

abbrev pub topology_at : Format → Data → Result Topology Fault
topology_at format = word_at topology_words

-- a transformer's kind
abbrev pub windings_words : List (List ℕ × WindingsKind)
windings_words = (codes "TWO_WINDINGS", windings.Two) ∷ (codes "THREE_WINDINGS", windings.Three) ∷ []

abbrev pub windings_kind_at : Format → Data → Result WindingsKind Fault
windings_kind_at format = word_at windings_words

abbrev pub branch_words : List (List ℕ × BranchKind)
branch_words = (codes "LINE", branches.Line) ∷ (codes "TWO_WINDINGS", branches.TwoWindings) ∷ (codes "THREE_WINDINGS", branches.ThreeWindings) ∷ []

abbrev pub branch_kind_at : Format → Data → Result BranchKind Fault
branch_kind_at format = word_at branch_words

-- what a listener may want to hear
abbrev pub event_words : List (List ℕ × EventKind)
event_words =
    (codes "created", events.Created) ∷ (codes "removed", events.Removed) ∷ (codes "updated", events.Updated)
    ∷ (codes "variant_created", events.VariantCreated) ∷ (codes "variant_overwritten", events.VariantOverwritten) ∷ (codes "variant_removed", events.VariantRemoved) ∷ []

abbrev pub event_kind_at : Format → Data → Result EventKind Fault
event_kind_at format = word_at event_words
