-- What the lines of `hvdc` tell of a history with HVDC lines.
use Rattle.std.specs.Prelude.{◌≡◌, ℕ, List, length, map, sum_by, All}
use Rattle.grid_core.specs.History.{History, live}
use Rattle.grid_core.specs.Replies.{state_of}
use Rattle.grid_core.specs.Journals.{journal_of}
use Rattle.grid_hvdc.specs.declared.HvdcLine.{HvdcLine}
use Rattle.grid_cli.specs.Hvdc.{named_count}
use Rattle.grid_told.specs.Held.{IsUnsigned}
use Rattle.grid_told_forms.specs.Rows.{Variant, IsVariant, rows_of}
use Rattle.grid_told_outputs.specs.Steps.{IsJournal, StepsAlike}

-- the variant of a name as the history left it: its buses by level and least node, each with its components
unfoldable pub variant_of : History → List HvdcLine → List ℕ → Variant
variant_of history hvdc_lines name =
    let state = state_of history.origin history.steps name in
    record { name = name; rows = rows_of state.structure state.opened state.retained hvdc_lines }

-- the live variants, by byte order of their names
unfoldable pub variants_of : History → List HvdcLine → List Variant
variants_of history hvdc_lines = map (variant_of history hvdc_lines) (live history.steps)

-- what the types of what is told hold: texts are UTF-8, and a number, or a count, has the bits of its type
pub record IsHeld (history : History) (hvdc_lines : List HvdcLine) : Type 0 where
  pub journal : IsJournal (journal_of history.origin history.steps)
  pub variants : All IsVariant (variants_of history hvdc_lines)
  pub variant_count : IsUnsigned (length (live history.steps))
  pub bus_count : IsUnsigned (sum_by (named_count history) (live history.steps))

-- equal counts of commands and of refused ones, equal first refused steps, and equal variants with their buses
pub record TellAlike (history other : History) (hvdc_lines also : List HvdcLine) : Type 0 where
  pub steps : StepsAlike (journal_of history.origin history.steps) (journal_of other.origin other.steps)
  pub variants : variants_of history hvdc_lines ≡ variants_of other also
