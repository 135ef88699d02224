-- Laws of findings, of the lines that tell them, and of faults and the plans that disconnect.
use Rattle.std.specs.Prelude.{◌≡◌, ℕ, true, false, Some, List, map, filter, slice_get}
use Rattle.grid_level.specs.declared.Placed.{Placed}
use Rattle.grid_level.specs.VoltageLevel.{VoltageLevel}
use Rattle.grid_level.specs.Passing.{is_branch_end}
use Rattle.grid_connect.specs.declared.DisconnectPlan.TheVariants.{Opens}
use Rattle.grid_connect.specs.Plans.{disconnect_plan_of}
use Rattle.grid_structure.specs.Network.{Network}
use Rattle.grid_structure.specs.Sites.{levels, switch_spot}
use Rattle.grid_structure.specs.Soundness.{IsSound}
use Rattle.grid_busview.specs.Views.{is_load, is_generation}
use Rattle.grid_json.specs.declared.format.Format.TheVariants as formats
use Rattle.grid_core.specs.Fitting.{RowsFit}
use Rattle.grid_core.specs.Solo.{State, positioned_at}
use Rattle.grid_contingencies.specs.declared.FaultCase.{FaultCase}
use Rattle.grid_contingencies.specs.declared.Contingency.{Contingency}
use Rattle.grid_screen.specs.declared.Finding.{Finding}
use Rattle.grid_screen.specs.Bodies.{told_line}
use Rattle.grid_screen.specs.Findings.{figures_of}
use Rattle.grid_screen.specs.Faults.{before_fault, cleared_of, zone_of, tripped_of}
use Rattle.grid_screen.specs.Found.{losses_of, finding_of}
use Rattle.grid_screen.specs.Texts.{screen_line}
use Rattle.grid_screened.specs.Disconnecting.{fault_of, has_one_node, has_end}
use Rattle.grid_screened.specs.Said.{said_of, IsHeld}
use Rattle.grid_screened.specs.Unconnected.{stands_in_bus, unconnected_watts}

-- what became unconnected is the watts of just the equipment that stands in a bus before and in none after, and what
-- stands in a bus after stood in one before
pub record IsOfUnconnected (before after : State) : Type 0 where
  pub load : (losses_of (figures_of before) (figures_of after)).unconnected_load ≡ unconnected_watts is_load before after
  pub generation : (losses_of (figures_of before) (figures_of after)).unconnected_generation ≡ unconnected_watts is_generation before after
  pub none_new : (id : List ℕ) → stands_in_bus after id ≡ true → stands_in_bus before id ≡ true

-- so it is with what is out, and when a fault is cleared
abbrev pub Unconnected : Type 0
Unconnected = (state : State) (event : FaultCase) → IsSound state.structure → RowsFit state.structure state.opened
    → IsOfUnconnected state (before_fault state event) × IsOfUnconnected state (cleared_of state event)

-- equal lines have equal names, whatever stands in these, and say the same of their findings
abbrev pub LinesAreTold : Type 0
LinesAreTold = (net other : Network) (name also : List ℕ) (finding found : Finding) → IsHeld finding → IsHeld found
    → screen_line formats.Two net name finding ≡ screen_line formats.Two other also found → (name ≡ also) × (said_of net finding ≡ said_of other found)

-- on one sound state, different pairs of a name and a finding have different lines
abbrev pub PairsAreTold : Type 0
PairsAreTold = (state : State) (first second : Contingency) → IsSound state.structure → IsHeld (finding_of state first) → IsHeld (finding_of state second)
    → told_line formats.Two state first ≡ told_line formats.Two state second → (first.name ≡ second.name) × (finding_of state first ≡ finding_of state second)

-- where the plan that disconnects the node of an injection opens breakers, and no branch end stands in the core of that
-- plan, these are just the tripped ones of a fault of the injection that have just one node in the zone; what is no
-- branch end is an injection, or a busbar section, for which no plan opens breakers
abbrev pub AsDisconnect : Type 0
AsDisconnect = (state : State) (k i : ℕ) (level : VoltageLevel) (p : Placed) (places : List ℕ) → IsSound state.structure → RowsFit state.structure state.opened
    → slice_get (levels state.structure) k ≡ Some level → slice_get level.placed i ≡ Some p → is_branch_end p.stand ≡ false
    → disconnect_plan_of (positioned_at state k level) p.node ≡ Opens places → has_end (positioned_at state k level) p.node ≡ false
    → map (λ j. switch_spot (k, j)) places ≡ filter (has_one_node state.structure (zone_of state (fault_of p.terminal.equipment))) (tripped_of state (fault_of p.terminal.equipment))
