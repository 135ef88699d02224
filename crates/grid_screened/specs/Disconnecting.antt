-- A fault of one equipment: what has one node in its zone, and where a branch ends in the core of a node.
use Rattle.std.specs.Prelude.{ℕ, Bool, false, not, ◌&&◌, ◌||◌, Option, Some, None, List, [], ◌∷◌, slice_get, option_and_then}
use Rattle.std.specs.List.{list_any}
use Rattle.grid_level.specs.declared.Switch.{Switch}
use Rattle.grid_level.specs.VoltageLevel.{VoltageLevel}
use Rattle.grid_level.specs.Passing.{is_branch_end, placed_among}
use Rattle.grid_connect.specs.Plans.{core_of}
use Rattle.grid_structure.specs.declared.Site.{Site}
use Rattle.grid_structure.specs.declared.SwitchAt.{SwitchAt}
use Rattle.grid_structure.specs.Network.{Network}
use Rattle.grid_structure.specs.Sites.{levels}
use Rattle.grid_contingencies.specs.declared.FaultCase.{FaultCase}
use Rattle.grid_screen.specs.Faults.{in_zone}

-- one equipment is hit, and nothing is out or stuck
abbrev pub fault_of : List ℕ → FaultCase
fault_of id = record { out = []; fault = id ∷ []; stuck = [] }

abbrev pub just_one : Bool → Bool → Bool
just_one a b = (a && not b) || (not a && b)

-- just one of a switch's two nodes is in the zone
abbrev pub one_node_in : List Site → ℕ → Option Switch → Bool
one_node_in zone level (Some s) = just_one (in_zone zone level s.node1) (in_zone zone level s.node2)
one_node_in zone level None = false

-- of the switch at a place
unfoldable pub has_one_node : Network → List Site → SwitchAt → Bool
has_one_node net zone at = one_node_in zone at.level (option_and_then (λ l. slice_get l.switches at.place) (slice_get (levels net) at.level))

-- a branch end stands in the core of a node
unfoldable pub has_end : VoltageLevel → ℕ → Bool
has_end level node = list_any (λ p. is_branch_end p.stand) (placed_among level (core_of level node))
