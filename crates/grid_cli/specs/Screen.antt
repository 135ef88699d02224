-- What the form `screen` writes.
use Rattle.std.specs.Prelude.{ℕ, if◌then◌else◌, Option, Some, None, List, [], ◌∷◌, ◌++◌, unwrap_or}
use Rattle.serde_json.specs.Data.{Data}
use Rattle.grid_slots.specs.Names.{initial_state}
use Rattle.grid_core.specs.declared.journal.Entry.{Entry}
use Rattle.grid_core.specs.History.{History, is_live}
use Rattle.grid_core.specs.Solo.{State}
use Rattle.grid_core.specs.Replies.{state_of}
use Rattle.grid_core.specs.Journals.{journal_of}
use Rattle.grid_jsonl.specs.Steps.{state_value}
use Rattle.grid_jsonl.specs.Outcomes.{lines}
use Rattle.grid_report.specs.Histories.{history_of}
use Rattle.grid_contingencies.specs.declared.Contingency.{Contingency}
use Rattle.grid_contingencies.specs.declared.ScreenJob.{ScreenJob}
use Rattle.grid_contingencies.specs.declared.Told.{Told}
use Rattle.grid_screen.specs.Bodies.{body_text, left_out, screened_list}
use Rattle.grid_forms.specs.declared.words.Layout.{Layout}
use Rattle.grid_cli.specs.Layouts.{in_layout}
use Rattle.grid_cli.specs.Orders.{order_of}
use Rattle.grid_cli.specs.Findings.{absent_object, absent_text, end_object, end_text, list_objects, told_count}

-- the variant that a job names, or else the initial one
abbrev pub variant_of : ScreenJob → List ℕ
variant_of screen = unwrap_or screen.variant initial_state

-- the state that is screened: what a history leaves of the variant; none where no live variant has the name
unfoldable pub state_after : History → List ℕ → Option State
state_after history name = if is_live history.steps name then Some (state_of history.origin history.steps name) else None

-- ---- the text

-- the lines of those listed and made contingencies that are told, and the last line
unfoldable pub findings_text : ScreenJob → State → List ℕ
findings_text screen state =
    body_text screen.format screen.only state screen.contingencies screen.each ++ end_text screen.only (left_out screen.only state screen.contingencies screen.each)

-- where there is no state to screen, that is told, and the last line counts nothing
abbrev pub answer_text : ScreenJob → Option State → List ℕ
answer_text screen (Some state) = findings_text screen state
answer_text screen None = absent_text (variant_of screen) ++ end_text screen.only 0

-- ---- the same as lines

-- the contingencies that are screened on a state, in order
abbrev pub all_of : ScreenJob → State → List Contingency
all_of screen state = screened_list state screen.contingencies screen.each

-- the objects of those that are told, at their places among all, and the last line
unfoldable pub findings_objects : ScreenJob → State → List Data
findings_objects screen state =
    list_objects screen.format screen.only state 0 (all_of screen state)
    ++ end_object screen.only (told_count screen.only state (all_of screen state)) (left_out screen.only state screen.contingencies screen.each) ∷ []

abbrev pub answer_objects : ScreenJob → Option State → List Data
answer_objects screen (Some state) = findings_objects screen state
answer_objects screen None = absent_object (variant_of screen) ∷ end_object screen.only 0 0 ∷ []

-- what is told of the steps, and the answer
unfoldable pub screened_objects : History → ScreenJob → List Data
screened_objects history screen = state_value (journal_of history.origin history.steps) ∷ answer_objects screen (state_after history (variant_of screen))

-- ---- in a layout

-- what is written where no live variant has the name
unfoldable pub absent_in : Layout → List Entry → List ℕ → Told → List ℕ
absent_in layout journal name only =
    in_layout layout (absent_text name ++ end_text only 0) (lines (state_value journal ∷ absent_object name ∷ end_object only 0 0 ∷ []))

-- what is written after a history
abbrev pub screened_in : Layout → History → ScreenJob → List ℕ
screened_in layout history screen = in_layout layout (answer_text screen (state_after history (variant_of screen))) (lines (screened_objects history screen))

-- a job's commands are run in its order, and its contingencies are screened on what that leaves of its variant
unfoldable pub screen_text : Layout → ScreenJob → List ℕ
screen_text layout screen = screened_in layout (history_of screen.job.network screen.job.scripts (order_of screen.job)) screen
