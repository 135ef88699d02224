-- Contingencies with their outages, one more, and the findings that the figures after them make.
use Rattle.std.proofs.Common.{◌≡◌, refl, ap, ◌∙◌, Bool, List, [], ◌∷◌, ◌++◌, length, map, arith}
use Rattle.std.specs.Prelude.{zip, All}
use Rattle.std.specs.List.{AllZip}
use Rattle.std.proofs.lemmas.List.Elements.{All-nil, All-cons}
use Rattle.grid_core.specs.declared.case.Case.{Case}
use Rattle.grid_contingencies.specs.declared.Contingency.{Contingency}
use Rattle.grid_figures.specs.declared.Figures.{Figures}
use Rattle.grid_figures.specs.declared.outage.Outage.{Outage}
use Rattle.grid_figures.specs.Outages.{OutageFits, AreFiguresUnder}
use Rattle.grid_outages.specs.declared.screening.Screening.{Screening}
use Rattle.grid_screen.specs.declared.find.End.{End}
use Rattle.grid_screen.specs.Findings.{state_in, figures_of}
use Rattle.grid_screen.specs.Found.{finding_of}
use Rattle.grid_screen.specs.Starts.{finding_from, IsStart}
use Rattle.grid_screen.specs.Started.{start_by, AreStarts}

module _ (case : Case) (kept : Screening) where
  pub starts_more : (list : List Contingency) (outages : List Outage) (ends : List End) (c : Contingency) (outage : Outage) (end : End) → AreStarts case kept list outages ends → IsStart case kept c (start_by outage end)
      → AreStarts case kept (list ++ c ∷ []) (outages ++ outage ∷ []) (ends ++ end ∷ [])
  starts_more [] [] [] c outage end all one = (one, tt)
  starts_more [] [] (e ∷ ends) c outage end all one = absurd all
  starts_more [] (o ∷ outages) ends c outage end all one = absurd all
  starts_more (x ∷ list) [] ends c outage end all one = absurd all
  starts_more (x ∷ list) (o ∷ outages) [] c outage end all one = absurd all
  starts_more (x ∷ list) (o ∷ outages) (e ∷ ends) c outage end all one = (all.0, starts_more list outages ends c outage end all.1 one)

  pub starts_fit : (list : List Contingency) (outages : List Outage) (ends : List End) → AreStarts case kept list outages ends → All (OutageFits kept.sums kept.joined) outages
  starts_fit [] [] [] all = All-nil (OutageFits kept.sums kept.joined)
  starts_fit [] [] (e ∷ ends) all = absurd all
  starts_fit [] (o ∷ outages) ends all = absurd all
  starts_fit (x ∷ list) [] ends all = absurd all
  starts_fit (x ∷ list) (o ∷ outages) [] all = absurd all
  starts_fit (x ∷ list) (o ∷ outages) (e ∷ ends) all = All-cons (OutageFits kept.sums kept.joined) o outages all.0.fits (starts_fit list outages ends all.1)

  pub ends_few : (list : List Contingency) (outages : List Outage) (ends : List End) (figures : List Figures) → AreStarts case kept list outages ends → AllZip (AreFiguresUnder kept.sums kept.joined) outages figures → length ends ≡ length figures
  ends_few [] [] [] [] all are = refl
  ends_few [] [] [] (f ∷ figures) all are = absurd are
  ends_few [] [] (e ∷ ends) figures all are = absurd all
  ends_few [] (o ∷ outages) ends figures all are = absurd all
  ends_few (x ∷ list) [] ends figures all are = absurd all
  ends_few (x ∷ list) (o ∷ outages) [] figures all are = absurd all
  ends_few (x ∷ list) (o ∷ outages) (e ∷ ends) [] all are = absurd are
  ends_few (x ∷ list) (o ∷ outages) (e ∷ ends) (f ∷ figures) all are = let r = ends_few list outages ends figures all.1 are.1 in omega (arith, r)

  module _ (retained : List (List Bool)) where
    abbrev before : Figures
    before = figures_of (state_in case retained)

    pub starts_found : (list : List Contingency) (outages : List Outage) (ends : List End) (figures : List Figures) → AreStarts case kept list outages ends → AllZip (AreFiguresUnder kept.sums kept.joined) outages figures
        → map (λ (pair : End × Figures). finding_from before pair.1 pair.0) (zip ends figures) ≡ map (finding_of (state_in case retained)) list
    starts_found [] [] [] [] all are = refl
    starts_found [] [] [] (f ∷ figures) all are = absurd are
    starts_found [] [] (e ∷ ends) figures all are = absurd all
    starts_found [] (o ∷ outages) ends figures all are = absurd all
    starts_found (x ∷ list) [] ends figures all are = absurd all
    starts_found (x ∷ list) (o ∷ outages) [] figures all are = absurd all
    starts_found (x ∷ list) (o ∷ outages) (e ∷ ends) [] all are = absurd are
    starts_found (x ∷ list) (o ∷ outages) (e ∷ ends) (f ∷ figures) all are =
        ap (λ z. z ∷ map (λ (pair : End × Figures). finding_from before pair.1 pair.0) (zip ends figures)) (all.0.makes f are.0 retained)
        ∙ ap (λ z. finding_of (state_in case retained) x ∷ z) (starts_found list outages ends figures all.1 are.1)
