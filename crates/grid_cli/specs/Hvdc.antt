-- What the form `hvdc` writes.
use Rattle.std.specs.Prelude.{ℕ, List, [], ◌∷◌, ◌++◌, length, sum_by, codes, if◌then◌else◌}
use Rattle.std.specs.List.{flat_map}
use Rattle.serde_json.specs.Data.{Data}
use Rattle.grid_islands.specs.Islands.{network_buses}
use Rattle.grid_core.specs.History.{History, live, is_live}
use Rattle.grid_core.specs.Solo.{State}
use Rattle.grid_core.specs.Replies.{state_of}
use Rattle.grid_core.specs.Journals.{journal_of}
use Rattle.grid_print.specs.Objects.{natural}
use Rattle.grid_print.specs.Job.{line_of}
use Rattle.grid_jsonl.specs.Steps.{state_value, state_line}
use Rattle.grid_jsonl.specs.Outcomes.{object_of_kind, lines}
use Rattle.grid_report.specs.Histories.{history_of}
use Rattle.grid_hvdc.specs.declared.HvdcJob.{HvdcJob}
use Rattle.grid_hvdc.specs.declared.HvdcLine.{HvdcLine}
use Rattle.grid_hvdc.specs.Texts.{variant_text}
use Rattle.grid_hvdc.specs.Lines.{variant_objects}
use Rattle.grid_forms.specs.declared.words.Layout.{Layout}
use Rattle.grid_cli.specs.Layouts.{in_layout}
use Rattle.grid_cli.specs.Orders.{order_of}
use Rattle.grid_cli.specs.declared.hvdc.Part.{Part}
use Rattle.grid_cli.specs.declared.hvdc.Part.TheVariants as parts

-- the buses of a variant in a state, each with its components
unfoldable pub state_text : List HvdcLine → List ℕ → State → List ℕ
state_text lines name state = variant_text name state.structure state.opened state.retained lines

-- of the variant of a name after a history; nothing where it is not live
unfoldable pub named_text : History → List HvdcLine → List ℕ → List ℕ
named_text history lines name =
    if is_live history.steps name then state_text lines name (state_of history.origin history.steps name) else []

-- each live variant, by byte order of the names, and the end
unfoldable pub numbers_text : History → List HvdcLine → List ℕ
numbers_text history lines = flat_map (named_text history lines) (live history.steps) ++ codes "end\n"

-- ---- the same as lines

unfoldable pub state_objects : List HvdcLine → List ℕ → State → List Data
state_objects lines name state = variant_objects name state.structure state.opened state.retained lines

unfoldable pub named_objects : History → List HvdcLine → List ℕ → List Data
named_objects history lines name =
    if is_live history.steps name then state_objects lines name (state_of history.origin history.steps name) else []

-- how many buses a state has
abbrev pub bus_count : State → ℕ
bus_count state = length (network_buses state.structure state.opened state.retained)

-- how many the variant of a name has
unfoldable pub named_count : History → List ℕ → ℕ
named_count history name = if is_live history.steps name then bus_count (state_of history.origin history.steps name) else 0

-- the last line, by how many variants and buses there are
unfoldable pub end_object : ℕ → ℕ → Data
end_object variants buses = object_of_kind (codes "end") ((codes "variants", natural variants) ∷ (codes "buses", natural buses) ∷ [])

-- what is told of the steps, each live variant, by byte order of the names, and the end
unfoldable pub numbers_objects : History → List HvdcLine → List Data
numbers_objects history lines =
    state_value (journal_of history.origin history.steps)
    ∷ (flat_map (named_objects history lines) (live history.steps)
    ++ end_object (length (live history.steps)) (sum_by (named_count history) (live history.steps)) ∷ [])

-- ---- in a layout

-- what is written after a history
abbrev pub numbers_in : Layout → History → List HvdcLine → List ℕ
numbers_in layout history hvdc_lines = in_layout layout (numbers_text history hvdc_lines) (lines (numbers_objects history hvdc_lines))

-- a job's commands are run in its order
unfoldable pub hvdc_text : Layout → HvdcJob → List ℕ
hvdc_text layout hvdc = numbers_in layout (history_of hvdc.job.network hvdc.job.scripts (order_of hvdc.job)) hvdc.lines

-- ---- parts

abbrev pub part_text : Part → List ℕ
part_text (parts.Steps journal) = []
part_text (parts.Variant world name lines) = named_text world.now lines.now name.now
part_text (parts.End variants buses) = codes "end\n"

abbrev pub part_lines : Part → List ℕ
part_lines (parts.Steps journal) = state_line journal.now
part_lines (parts.Variant world name hvdc_lines) = lines (named_objects world.now hvdc_lines.now name.now)
part_lines (parts.End variants buses) = line_of (end_object variants buses)
