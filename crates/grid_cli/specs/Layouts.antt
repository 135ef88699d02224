-- What is written in each layout.
use Rattle.std.specs.Prelude.{ℕ, List}
use Rattle.grid_report.specs.declared.outcome.Outcome.{Outcome}
use Rattle.grid_report.specs.Outcomes.{report_of}
use Rattle.grid_jsonl.specs.Outcomes.{lines, objects}
use Rattle.grid_forms.specs.declared.words.Layout.{Layout}
use Rattle.grid_forms.specs.declared.words.Layout.TheVariants.{Text, Lines}

-- the text or the lines
abbrev pub in_layout : Layout → List ℕ → List ℕ → List ℕ
in_layout Text text lined = text
in_layout Lines text lined = lined

-- of an outcome
unfoldable pub outcome_text : Layout → Outcome → List ℕ
outcome_text layout o = in_layout layout (report_of o) (lines (objects o))
