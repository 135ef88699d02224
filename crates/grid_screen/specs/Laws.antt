-- What is said of cases.
use Rattle.std.specs.Prelude.{◌≡◌, ℕ, Some, List}
use Rattle.grid_structure.specs.Network.{Network}
use Rattle.grid_structure.specs.Soundness.{IsSound}
use Rattle.grid_core.specs.declared.case.Case.{Case}
use Rattle.grid_core.specs.Cases.{case_of}
use Rattle.grid_core.specs.History.{Command}
use Rattle.grid_screen.specs.Findings.{CaseFits}

-- what a live variant stands at has one row per level and one flag per switch
abbrev pub CasesFit : Type 0
CasesFit = (origin : Network) (steps : List Command) (name : List ℕ) (case : Case) → IsSound origin → case_of origin steps name ≡ Some case → CaseFits case
