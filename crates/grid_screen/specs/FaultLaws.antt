-- Laws of zones, and of what is left when a fault is cleared.
use Rattle.std.specs.Prelude.{◌≡◌, ℕ, Bool, true, false, Some, List, ◌++◌, flat_map, slice_get}
use Rattle.grid_ids.specs.Name.{has_id}
use Rattle.grid_level.specs.declared.Placed.{Placed}
use Rattle.grid_level.specs.declared.Switch.{Switch}
use Rattle.grid_level.specs.VoltageLevel.{VoltageLevel}
use Rattle.grid_level.specs.Passing.{bus, passing, is_operable}
use Rattle.grid_structure.specs.declared.Site.{Site}
use Rattle.grid_structure.specs.Sites.{levels, switch_spot}
use Rattle.grid_structure.specs.Soundness.{IsSound}
use Rattle.grid_core.specs.declared.case.Case.{Case}
use Rattle.grid_contingencies.specs.declared.FaultCase.{FaultCase}
use Rattle.grid_core.specs.Solo.{State, positioned_at}
use Rattle.grid_screen.specs.Faults.{before_fault, zone_of, in_zone, tripped_of, clearing_of, cleared_of}
use Rattle.grid_screen.specs.Findings.{CaseFits, state_in}
use Rattle.grid_screen.specs.Outages.{state_without}
use Rattle.grid_screen.specs.Walks.{HasSites}
use Rattle.grid_screen.specs.Zones.{sites_of, fault_ties}

-- a set of sites has both ends of each link before the fault or neither
abbrev pub HasTies : Case → FaultCase → List (List Bool) → (Site → Bool) → Type 0
HasTies case fault retained set = (i : ℕ) (tie : Site × Site)
    → slice_get (fault_ties (before_fault (state_in case retained) fault).structure (before_fault (state_in case retained) fault).opened fault.stuck) i ≡ Some tie → set tie.0 ≡ set tie.1

-- each set that has the sites of what is hit, and of each link both ends or neither, has the zone
abbrev pub ZoneIsLeast : Type 0
ZoneIsLeast = (case : Case) (fault : FaultCase) (retained : List (List Bool)) (set : Site → Bool) → IsSound case.structure → CaseFits case
    → HasTies case fault retained set → HasSites set (flat_map (sites_of case.structure) fault.fault) → HasSites set (zone_of (state_in case retained) fault)

abbrev pub with_stuck : FaultCase → List (List ℕ) → FaultCase
with_stuck fault ids = record { out = fault.out; fault = fault.fault; stuck = ids }

-- with more breakers that fail, the zone has all sites that it had
abbrev pub FailureSpreads : Type 0
FailureSpreads = (case : Case) (fault : FaultCase) (ids : List (List ℕ)) (retained : List (List Bool)) → IsSound case.structure → CaseFits case
    → ((q : List ℕ) → has_id fault.stuck q ≡ true → has_id ids q ≡ true)
    → (i : ℕ) (s : Site) → slice_get (zone_of (state_in case retained) fault) i ≡ Some s → (j : ℕ) × (slice_get (zone_of (state_in case retained) (with_stuck fault ids)) j ≡ Some s)

-- the state when a fault is cleared is that without what was out before and then what is opened and removed
abbrev pub ClearedIsOutage : Type 0
ClearedIsOutage = (state : State) (fault : FaultCase) → cleared_of state fault ≡ state_without state (fault.out ++ clearing_of state fault)

-- each edge of a state that passes has both its nodes in a zone or neither, and no terminal stands in it
pub record IsClearOf (zone : List Site) (state : State) : Type 0 where
  pub edges : (k i : ℕ) (l : VoltageLevel) (pair : ℕ × ℕ) → slice_get (levels state.structure) k ≡ Some l → slice_get (passing bus (positioned_at state k l)) i ≡ Some pair → in_zone zone k pair.0 ≡ in_zone zone k pair.1
  pub terminals : (k i : ℕ) (l : VoltageLevel) (p : Placed) → slice_get (levels state.structure) k ≡ Some l → slice_get l.placed i ≡ Some p → in_zone zone k p.node ≡ false

-- so is the zone when the fault is cleared
abbrev pub ZoneIsCleared : Type 0
ZoneIsCleared = (case : Case) (fault : FaultCase) (retained : List (List Bool)) → IsSound case.structure → CaseFits case → IsClearOf (zone_of (state_in case retained) fault) (cleared_of (state_in case retained) fault)

-- before the fault, each closed operable breaker with just one node in the zone trips
abbrev pub OneNodeTrips : Type 0
OneNodeTrips = (case : Case) (fault : FaultCase) (retained : List (List Bool)) (k i : ℕ) (l : VoltageLevel) (s : Switch) → IsSound case.structure → CaseFits case
    → slice_get (levels (before_fault (state_in case retained) fault).structure) k ≡ Some l → slice_get (positioned_at (before_fault (state_in case retained) fault) k l).switches i ≡ Some s → s.opened ≡ false → is_operable s ≡ true
    → (in_zone (zone_of (state_in case retained) fault) k s.node1 ≡ in_zone (zone_of (state_in case retained) fault) k s.node2 → ⊥)
    → (j : ℕ) × (slice_get (tripped_of (state_in case retained) fault) j ≡ Some (switch_spot (k, i)))
