-- What a fault does to a state: its zone, the breakers that trip, and what is left when it is cleared. The rules are
-- this project's own.
use Rattle.std.specs.Prelude.{◌≡◌, ℕ, Bool, not, ◌&&◌, ◌||◌, ◌==◌, List, ◌++◌, map, filter, flat_map, fold, slice_get, option_and_then}
use Rattle.std.specs.Option.{option_map, option_to_list}
use Rattle.std.specs.List.{enumerate_from, list_any}
use Rattle.grid_ids.specs.Name.{has_id}
use Rattle.grid_level.specs.declared.Switch.{Switch}
use Rattle.grid_level.specs.VoltageLevel.{VoltageLevel}
use Rattle.grid_level.specs.Passing.{is_operable}
use Rattle.grid_structure.specs.declared.Site.{Site}
use Rattle.grid_structure.specs.declared.SwitchAt.{SwitchAt}
use Rattle.grid_structure.specs.Network.{Network}
use Rattle.grid_structure.specs.Sites.{levels, switch_spot}
use Rattle.grid_core.specs.declared.case.Case.{Case}
use Rattle.grid_core.specs.Solo.{State, positioned_at}
use Rattle.grid_contingencies.specs.declared.FaultCase.{FaultCase}
use Rattle.grid_screen.specs.Findings.{state_in}
use Rattle.grid_screen.specs.Outages.{is_switch, with_out, state_without}
use Rattle.grid_screen.specs.Zones.{site_at, sites_of, fault_ties, zone_over}

-- ---- the zone

-- what is out goes first
unfoldable pub before_fault : State → FaultCase → State
before_fault state fault = state_without state fault.out

-- over the links before the fault, from the sites that its ids have in the state that is screened
unfoldable pub zone_from : State → State → FaultCase → List Site
zone_from state before fault = zone_over state.structure (fault_ties before.structure before.opened fault.stuck) (flat_map (sites_of state.structure) fault.fault)

unfoldable pub zone_of : State → FaultCase → List Site
zone_of state fault = zone_from state (before_fault state fault) fault

-- ---- the breakers that trip

abbrev pub same_site : Site → Site → Bool
same_site a b = (a.level == b.level) && (a.node == b.node)

-- the node of the level at a place is in the zone
unfoldable pub in_zone : List Site → ℕ → ℕ → Bool
in_zone zone level node = list_any (same_site (site_at level node)) zone

-- a closed operable breaker that is neither stuck nor hit
unfoldable pub can_trip : List (List ℕ) → List (List ℕ) → Switch → Bool
can_trip stuck hit s = not s.opened && (is_operable s && (not (has_id stuck s.id) && not (has_id hit s.id)))

-- such a one with one of these nodes
unfoldable pub trips : List (List ℕ) → List (List ℕ) → (ℕ → Bool) → Switch → Bool
trips stuck hit inside s = can_trip stuck hit s && (inside s.node1 || inside s.node2)

-- where the switches of the level at a place are of which the test holds, by place
unfoldable pub spots_that : (Switch → Bool) → ℕ → List Switch → List SwitchAt
spots_that test level switches = map (λ s. switch_spot (level, s.0)) (filter (λ s. test s.1) (enumerate_from 0 switches))

-- those of a level by its place, its switches in the positions before the fault
unfoldable pub tripped_in : State → FaultCase → List Site → ℕ × VoltageLevel → List SwitchAt
tripped_in before fault zone at = spots_that (trips fault.stuck fault.fault (in_zone zone at.0)) at.0 (positioned_at before at.0 at.1).switches

-- by place of level, then by place there
unfoldable pub tripped_from : State → FaultCase → List Site → List SwitchAt
tripped_from before fault zone = flat_map (tripped_in before fault zone) (enumerate_from 0 (levels before.structure))

unfoldable pub tripped_of : State → FaultCase → List SwitchAt
tripped_of state fault = tripped_from (before_fault state fault) fault (zone_of state fault)

-- ---- when the fault is cleared

-- the id of the switch at a place
unfoldable pub switch_ids : Network → SwitchAt → List (List ℕ)
switch_ids net at = option_to_list (option_map (λ s. s.id) (option_and_then (λ l. slice_get l.switches at.place) (slice_get (levels net) at.level)))

-- of a level by its place, the equipment with a terminal in the zone, by node
unfoldable pub equipment_in : List Site → ℕ × VoltageLevel → List (List ℕ)
equipment_in zone at = map (λ p. p.terminal.equipment) (filter (λ p. in_zone zone at.0 p.node) at.1.placed)

unfoldable pub zone_equipment : State → List Site → List (List ℕ)
zone_equipment before zone = flat_map (equipment_in zone) (enumerate_from 0 (levels before.structure))

-- each breaker that trips is opened, then each switch that is hit, then all equipment in the zone is removed
unfoldable pub clearing_of : State → FaultCase → List (List ℕ)
clearing_of state fault =
    flat_map (switch_ids state.structure) (tripped_of state fault) ++ (filter (is_switch state.structure) fault.fault ++ zone_equipment (before_fault state fault) (zone_of state fault))

-- the state when that was done
unfoldable pub cleared_of : State → FaultCase → State
cleared_of state fault = fold (with_out state.structure) (before_fault state fault) (clearing_of state fault)

-- ---- what is said of a case

abbrev pub IsZone : Case → FaultCase → List Site → Type 0
IsZone case fault zone = (retained : List (List Bool)) → zone ≡ zone_of (state_in case retained) fault

abbrev pub AreTripped : Case → FaultCase → List SwitchAt → Type 0
AreTripped case fault tripped = (retained : List (List Bool)) → tripped ≡ tripped_of (state_in case retained) fault

abbrev pub IsClearing : Case → FaultCase → List (List ℕ) → Type 0
IsClearing case fault ids = (retained : List (List Bool)) → ids ≡ clearing_of (state_in case retained) fault

-- those ids, and then those of the clearing
abbrev pub IsClearedBehind : Case → FaultCase → List (List ℕ) → List (List ℕ) → Type 0
IsClearedBehind case fault before ids = (retained : List (List Bool)) → ids ≡ before ++ clearing_of (state_in case retained) fault
