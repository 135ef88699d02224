-- What is found of a contingency, but for the figures after its outage.
use Rattle.std.specs.Prelude.{◌≡◌, Bool, List}
use Rattle.grid_core.specs.declared.case.Case.{Case}
use Rattle.grid_contingencies.specs.declared.FaultCase.{FaultCase}
use Rattle.grid_contingencies.specs.declared.Contingency.{Contingency}
use Rattle.grid_figures.specs.declared.Figures.{Figures}
use Rattle.grid_figures.specs.Outages.{OutageFits, AreFiguresUnder}
use Rattle.grid_outages.specs.declared.screening.Screening.{Screening}
use Rattle.grid_screen.specs.declared.Finding.{Finding}
use Rattle.grid_screen.specs.declared.find.End.{End}
use Rattle.grid_screen.specs.declared.find.End.TheVariants as ends
use Rattle.grid_screen.specs.declared.find.Start.{Start}
use Rattle.grid_screen.specs.Findings.{state_in, figures_of}
use Rattle.grid_screen.specs.Found.{effect_of, effect_in, finding_of}

-- the finding that figures make
abbrev pub finding_from : Figures → Figures → End → Finding
finding_from before after (ends.Amiss finding) = finding
finding_from before after (ends.Effect tripped) = effect_of before after tripped

-- an outage with what the figures after it make: an effect
pub record StartsEffect (case : Case) (kept : Screening) (event : FaultCase) (has_fault : Bool) (start : Start) : Type 0 where
  pub fits : OutageFits kept.sums kept.joined start.outage
  pub makes : (after : Figures) → AreFiguresUnder kept.sums kept.joined start.outage after → (retained : List (List Bool)) → finding_from (figures_of (state_in case retained)) after start.end ≡ effect_in (state_in case retained) event has_fault

-- the finding of a contingency
pub record IsStart (case : Case) (kept : Screening) (contingency : Contingency) (start : Start) : Type 0 where
  pub fits : OutageFits kept.sums kept.joined start.outage
  pub makes : (after : Figures) → AreFiguresUnder kept.sums kept.joined start.outage after → (retained : List (List Bool)) → finding_from (figures_of (state_in case retained)) after start.end ≡ finding_of (state_in case retained) contingency
