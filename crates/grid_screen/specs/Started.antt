-- What is found of a list of contingencies, but for the figures after their outages.
use Rattle.std.specs.Prelude.{List, [], ◌∷◌}
use Rattle.grid_core.specs.declared.case.Case.{Case}
use Rattle.grid_contingencies.specs.declared.Contingency.{Contingency}
use Rattle.grid_figures.specs.declared.outage.Outage.{Outage}
use Rattle.grid_outages.specs.declared.screening.Screening.{Screening}
use Rattle.grid_screen.specs.declared.find.End.{End}
use Rattle.grid_screen.specs.declared.find.Start.{Start}
use Rattle.grid_screen.specs.Starts.{IsStart}

abbrev pub start_by : Outage → End → Start
start_by outage end = record { outage = outage; end = end }

-- each contingency has its outage, and how its finding is made
abbrev pub AreStarts : Case → Screening → List Contingency → List Outage → List End → Type 0
AreStarts case kept [] [] [] = Unit {0}
AreStarts case kept (c ∷ list) (outage ∷ outages) (end ∷ ends) = IsStart case kept c (start_by outage end) × AreStarts case kept list outages ends
AreStarts case kept list outages ends = ⊥
