-- What is told of a list of contingencies on a state, and the parts in which it is written.
use Rattle.std.specs.Prelude.{ℕ, Bool, true, not, List, [], ◌∷◌, ◌++◌, length, map, filter, codes, decimal}
use Rattle.std.specs.List.{flat_map, enumerate_from}
use Rattle.serde_json.specs.Data.{Data, string}
use Rattle.grid_core.specs.declared.journal.Entry.{Entry}
use Rattle.grid_core.specs.declared.case.Case.{Case}
use Rattle.grid_core.specs.declared.reply.Refusal.TheVariants.{NoVariant}
use Rattle.grid_core.specs.Solo.{State}
use Rattle.grid_json.specs.declared.format.Format.{Format}
use Rattle.grid_print.specs.Objects.{natural}
use Rattle.grid_print.specs.Job.{line_of}
use Rattle.grid_report.specs.Refusals.{refusal_text}
use Rattle.grid_jsonl.specs.Steps.{state_line, state_value}
use Rattle.grid_jsonl.specs.Outcomes.{object_of_kind, lines}
use Rattle.grid_contingencies.specs.declared.Contingency.{Contingency}
use Rattle.grid_contingencies.specs.declared.Told.{Told}
use Rattle.grid_contingencies.specs.declared.Told.TheVariants as whose
use Rattle.grid_figures.specs.declared.Figures.{Figures}
use Rattle.grid_screen.specs.declared.Finding.{Finding}
use Rattle.grid_screen.specs.Findings.{CaseFits, AreFigures, state_in}
use Rattle.grid_screen.specs.Found.{finding_of, is_loss}
use Rattle.grid_screen.specs.Bodies.{is_told, told_line}
use Rattle.grid_screen.specs.Texts.{screen_line}
use Rattle.grid_screen.specs.Lines.{contingency_object}
use Rattle.grid_forms.specs.declared.words.Layout.{Layout}
use Rattle.grid_cli.specs.Layouts.{in_layout}
use Rattle.grid_cli.specs.declared.findings.Look.{Look}
use Rattle.grid_cli.specs.declared.findings.Part.{Part}
use Rattle.grid_cli.specs.declared.findings.Part.TheVariants as parts

-- ---- the text

-- the lines of those contingencies that are told, in order
unfoldable pub list_text : Format → Told → State → List Contingency → List ℕ
list_text format only state list = flat_map (told_line format state) (filter (is_told only state) list)

-- how many are told
unfoldable pub told_count : Told → State → List Contingency → ℕ
told_count only state list = length (filter (is_told only state) list)

-- how many are left out
unfoldable pub left_count : Told → State → List Contingency → ℕ
left_count only state list = length (filter (λ contingency. not (is_told only state contingency)) list)

-- the last line tells how many are left out, where only losses are told
abbrev pub end_text : Told → ℕ → List ℕ
end_text whose.All count = codes "end\n"
end_text whose.Losses count = codes "end: " ++ decimal count ++ codes " left out\n"

-- that no live variant has the name
unfoldable pub absent_text : List ℕ → List ℕ
absent_text name = codes "variant " ++ name ++ codes ": refused " ++ refusal_text NoVariant ++ codes "\n"

-- ---- the same as lines

-- of a contingency with its place among all
unfoldable pub found_object : Format → State → ℕ × Contingency → Data
found_object format state at = contingency_object format state.structure at.0 at.1.name (finding_of state at.1)

-- the contingency of a place is told
abbrev pub is_told_at : Told → State → ℕ × Contingency → Bool
is_told_at only state at = is_told only state at.1

-- the objects of those that are told, in order, where the list begins at a place
unfoldable pub list_objects : Format → Told → State → ℕ → List Contingency → List Data
list_objects format only state first list = map (found_object format state) (filter (is_told_at only state) (enumerate_from first list))

-- how many are left out, where only losses are told
abbrev pub left_fields : Told → ℕ → List (List ℕ × Data)
left_fields whose.All count = []
left_fields whose.Losses count = (codes "left_out", natural count) ∷ []

-- the last line, by how many are told and how many are left out
unfoldable pub end_object : Told → ℕ → ℕ → Data
end_object only told count = object_of_kind (codes "end") ((codes "contingencies", natural told) ∷ left_fields only count)

unfoldable pub absent_object : List ℕ → Data
absent_object name = object_of_kind (codes "no_variant") ((codes "variant", string name) ∷ [])

-- ---- in a layout

unfoldable pub list_in : Layout → Format → Told → State → ℕ → List Contingency → List ℕ
list_in layout format only state first list = in_layout layout (list_text format only state list) (lines (list_objects format only state first list))

-- what is told of the steps, of a list from the first place on, and the last line
unfoldable pub listed_in : Layout → Format → Told → State → List Entry → List Contingency → List ℕ
listed_in layout format only state journal list =
    in_layout layout (list_text format only state list ++ end_text only (left_count only state list))
    (lines (state_value journal ∷ (list_objects format only state 0 list ++ end_object only (told_count only state list) (left_count only state list) ∷ [])))

-- ---- a look at a case

-- a case as a state
abbrev pub case_state : Case → State
case_state case = state_in case case.states.retained

-- the case can be screened, and these are its figures
pub record IsLook (case : Case) (look : Look) : Type 0 where
  pub fits : CaseFits case
  pub before : AreFigures case look.before

-- a finding is told, where these were the figures before
abbrev pub tells : Told → Figures → Finding → Bool
tells whose.All before finding = true
tells whose.Losses before finding = is_loss before finding

-- what is told of a list that begins at a place
abbrev pub told_of : Case → Look → ℕ → List Contingency → List ℕ
told_of case look first list = list_in look.layout look.format look.only (case_state case) first list

-- ---- parts

abbrev pub part_text : Part → List ℕ
part_text (parts.Steps journal) = []
part_text (parts.Absent name) = absent_text name.now
part_text (parts.Found telling place name finding) = screen_line telling.format telling.structure.now name.now finding.now
part_text (parts.End only told count) = end_text only count

abbrev pub part_lines : Part → List ℕ
part_lines (parts.Steps journal) = state_line journal.now
part_lines (parts.Absent name) = line_of (absent_object name.now)
part_lines (parts.Found telling place name finding) = line_of (contingency_object telling.format telling.structure.now place name.now finding.now)
part_lines (parts.End only told count) = line_of (end_object only told count)
