-- What every variant gains or loses at once.
use Rattle.std.specs.Prelude.{◌<◌, length}
use Rattle.grid_states.specs.Rows.{Rows, row_at, with_switch, without_switch, without_terminal, HasRoom}
use Rattle.grid_slots.specs.declared.changes.Change.{Change}
use Rattle.grid_slots.specs.declared.changes.Change.TheVariants.{GainSwitch, LoseSwitch, LoseTerminal}

-- the rows after the change
abbrev pub after : Change → Rows → Rows
after (GainSwitch level opened retained) rows = with_switch rows level opened retained
after (LoseSwitch level place) rows = without_switch rows level place
after (LoseTerminal level node counted) rows = without_terminal rows level node counted

-- the level, and the switch that is lost, are there; the sums have room
abbrev pub Fits : Change → Rows → Type 0
Fits (GainSwitch level opened retained) rows = level < length rows.opened
Fits (LoseSwitch level place) rows = (level < length rows.opened) × (place < length (row_at rows.opened level)) × (place < length (row_at rows.retained level))
Fits (LoseTerminal level node counted) rows = (level < length rows.opened) × HasRoom rows
