-- What is said of a case and of what is kept of it.
use Rattle.std.specs.Prelude.{◌≡◌, ℕ, Bool, List}
use Rattle.grid_structure.specs.Sites.{levels}
use Rattle.grid_core.specs.declared.case.Case.{Case}
use Rattle.grid_figures.specs.declared.Figures.{Figures}
use Rattle.grid_outages.specs.declared.screening.Screening.{Screening}
use Rattle.grid_figures.specs.declared.outage.Outage.{Outage}
use Rattle.grid_figures.specs.Figures.{figures_by}
use Rattle.grid_figures.specs.Outages.{OutageFits, sums_under, pairs_under}
use Rattle.grid_outages.specs.Effects.{IsWhole}
use Rattle.grid_screen.specs.Findings.{state_in, figures_of}
use Rattle.grid_screen.specs.Outages.{state_without}
use Rattle.grid_outages.specs.Changes.{level_sums, level_places, network_links}

-- it is the case's
pub record IsKeptOf (case : Case) (kept : Screening) : Type 0 where
  pub sums : kept.sums ≡ level_sums case.powers.listed (levels case.structure) case.states.opened
  pub links : kept.links ≡ network_links case.structure (level_places (levels case.structure) case.states.opened)
  pub whole : IsWhole kept

-- the outage has the figures of the state after these ids are out
pub record IsOutageOf (case : Case) (kept : Screening) (ids : List (List ℕ)) (outage : Outage) : Type 0 where
  pub fits : OutageFits kept.sums kept.joined outage
  pub figures : (retained : List (List Bool)) → figures_by (sums_under kept.sums outage) (pairs_under kept.sums kept.joined outage) ≡ figures_of (state_without (state_in case retained) ids)

-- the figures after these ids are out
abbrev pub AreFiguresWithout : Case → List (List ℕ) → Figures → Type 0
AreFiguresWithout case ids figures = (retained : List (List Bool)) → figures ≡ figures_of (state_without (state_in case retained) ids)
