-- What the lines of `screen` tell of a history and of what is asked of it.
use Rattle.std.specs.Prelude.{◌≡◌, ℕ, Option, Some, None, List, map, filter, IsUtf8, All}
use Rattle.std.specs.List.{enumerate_from}
use Rattle.grid_core.specs.History.{History}
use Rattle.grid_core.specs.Solo.{State}
use Rattle.grid_core.specs.Journals.{journal_of}
use Rattle.grid_contingencies.specs.declared.Contingency.{Contingency}
use Rattle.grid_contingencies.specs.declared.ScreenJob.{ScreenJob}
use Rattle.grid_contingencies.specs.declared.Told.{Told}
use Rattle.grid_contingencies.specs.declared.Told.TheVariants as whose
use Rattle.grid_screen.specs.Bodies.{left_out}
use Rattle.grid_screen.specs.Found.{finding_of}
use Rattle.grid_cli.specs.Findings.{is_told_at, told_count}
use Rattle.grid_cli.specs.Screen.{all_of, state_after, variant_of}
use Rattle.grid_told.specs.Held.{IsUnsigned}
use Rattle.grid_told_forms.specs.Findings as forms
use Rattle.grid_told_forms.specs.Findings.{Screened, IsScreened, told_of}
use Rattle.grid_told_outputs.specs.Steps.{IsJournal, StepsAlike}

-- a contingency at its place among all, with what it does to a state
unfoldable pub screened_at : State → ℕ × Contingency → Screened
screened_at state at = record { place = at.0; name = at.1.name; finding = finding_of state at.1 }

-- those that are told, in order
unfoldable pub screened_of : ScreenJob → State → List Screened
screened_of screen state = map (screened_at state) (filter (is_told_at screen.only state) (enumerate_from 0 (all_of screen state)))

-- how many are left out, where only losses are told
abbrev pub left_of : Told → ℕ → Option ℕ
left_of whose.All count = None
left_of whose.Losses count = Some count

-- what is told: that no live variant has the name, or the contingencies and how many are left out
pub data Answer : Type 0 where
  Absent : List ℕ → Option ℕ → Answer
  Findings : List forms.Told → Option ℕ → Answer

abbrev pub answer_of : ScreenJob → Option State → Answer
answer_of screen None = Absent (variant_of screen) (left_of screen.only 0)
answer_of screen (Some state) = Findings (map (told_of screen.format state.structure) (screened_of screen state)) (left_of screen.only (left_out screen.only state screen.contingencies screen.each))

-- what the types of what is told hold: texts are UTF-8, and a number, or a count, has the bits of its type
pub record AreHeld (screen : ScreenJob) (state : State) : Type 0 where
  pub screened : All (IsScreened state.structure) (screened_of screen state)
  pub told : IsUnsigned (told_count screen.only state (all_of screen state))
  pub left : IsUnsigned (left_out screen.only state screen.contingencies screen.each)

abbrev pub IsAnswer : ScreenJob → Option State → Type 0
IsAnswer screen None = IsUtf8 (variant_of screen)
IsAnswer screen (Some state) = AreHeld screen state

pub record IsHeld (history : History) (screen : ScreenJob) : Type 0 where
  pub journal : IsJournal (journal_of history.origin history.steps)
  pub answer : IsAnswer screen (state_after history (variant_of screen))

-- equal counts of commands and of refused ones, equal first refused steps, and equal answers: the name of which no variant is
-- live, or each contingency's place, name and finding, and how many are left out
pub record TellAlike (history other : History) (screen also : ScreenJob) : Type 0 where
  pub steps : StepsAlike (journal_of history.origin history.steps) (journal_of other.origin other.steps)
  pub answer : answer_of screen (state_after history (variant_of screen)) ≡ answer_of also (state_after other (variant_of also))
