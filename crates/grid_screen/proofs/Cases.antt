-- The rows of a case fit its structure.
use Rattle.std.proofs.Common.{◌≡◌, Bool, true, false, cond, Option, Some, None, subst}
use Rattle.grid_core.specs.declared.case.Case.{Case}
use Rattle.grid_core.specs.Cases.{case_seen, case_of}
use Rattle.grid_core.specs.History.{is_live}
use Rattle.grid_core.specs.Replies.{state_of}
use Rattle.grid_core.proofs.SoundStates.{state_of-fits}
use Rattle.grid_screen.specs.Findings.{CaseFits}
use Rattle.grid_screen.specs.Laws.{CasesFit}

pub cases_fit : CasesFit
unfolding case_of case_seen
cases_fit origin steps name case sound e = by (is_live steps name) e
  where
    seen : Case
    seen = case_seen (state_of origin steps name)

    by : (t : Bool) → ◌≡◌ {A = Option Case} (cond t (Some seen) None) (Some case) → CaseFits case
    by true h = let same : seen ≡ case = cc in subst (λ (z : Case). CaseFits z) same (state_of-fits origin steps name sound).opened
    by false h = absurd (cc)
