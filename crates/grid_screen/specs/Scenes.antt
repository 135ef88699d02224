-- What the state before a fault is of a case.
use Rattle.std.specs.Prelude.{◌≡◌, Bool, List}
use Rattle.grid_structure.specs.Sites.{levels}
use Rattle.grid_core.specs.declared.case.Case.{Case}
use Rattle.grid_json.specs.Seen.{Knows}
use Rattle.grid_contingencies.specs.declared.FaultCase.{FaultCase}
use Rattle.grid_screen.specs.Faults.{before_fault}
use Rattle.grid_screen.specs.Findings.{state_in}
use Rattle.grid_screen.specs.Grounds.{Ground}

-- its levels and flags are those of the state before the fault
pub record IsScene (case : Case) (fault : FaultCase) (g : Ground) : Type 0 where
  pub net_is : g.net ≡ case.structure
  pub levels_are : (retained : List (List Bool)) → g.present ≡ levels (before_fault (state_in case retained) fault).structure
  pub opened_are : (retained : List (List Bool)) → g.opened ≡ (before_fault (state_in case retained) fault).opened
  pub stuck_are : Knows g.stuck fault.stuck
