-- Laws of the whole lists of lines of the forms `hvdc` and `screen`.
use Rattle.std.specs.Prelude.{◌≡◌, List, All}
use Rattle.grid_core.specs.History.{History}
use Rattle.grid_hvdc.specs.declared.HvdcLine.{HvdcLine}
use Rattle.grid_jsonl.specs.Outcomes.{lines}
use Rattle.grid_cli.specs.Hvdc.{numbers_objects}
use Rattle.grid_contingencies.specs.declared.ScreenJob.{ScreenJob}
use Rattle.grid_cli.specs.Screen.{screened_objects}
use Rattle.grid_told.specs.Shapes.{IsReadBack}
use Rattle.grid_told_outputs.specs.Hvdc as hvdc
use Rattle.grid_told_outputs.specs.Screen as screen

-- ---- hvdc

-- each object has whole numbers and names that differ, nests at most 6 deep, and its text is read by the reading of
-- jobs as the value with the same members
abbrev pub HvdcIsReadBack : Type 0
HvdcIsReadBack =
    (history : History) (hvdc_lines : List HvdcLine) → hvdc.IsHeld history hvdc_lines
    → All IsReadBack (numbers_objects history hvdc_lines)

-- histories with HVDC lines whose lines are equal tell alike
abbrev pub HvdcIsTold : Type 0
HvdcIsTold =
    (history other : History) (hvdc_lines also : List HvdcLine)
    → hvdc.IsHeld history hvdc_lines → hvdc.IsHeld other also
    → lines (numbers_objects history hvdc_lines) ≡ lines (numbers_objects other also)
    → hvdc.TellAlike history other hvdc_lines also

-- ---- screen

-- each object is read back as those of `hvdc` are
abbrev pub ScreenIsReadBack : Type 0
ScreenIsReadBack = (history : History) (job : ScreenJob) → screen.IsHeld history job → All IsReadBack (screened_objects history job)

-- histories and jobs with contingencies whose lines are equal tell alike
abbrev pub ScreenIsTold : Type 0
ScreenIsTold =
    (history other : History) (job also : ScreenJob) → screen.IsHeld history job → screen.IsHeld other also
    → lines (screened_objects history job) ≡ lines (screened_objects other also) → screen.TellAlike history other job also
