-- The numbers that a call's statuses have.
use Rattle.std.specs.Prelude.{ℕ}
use Rattle.grid_forms.specs.declared.status.Status.{Status}
use Rattle.grid_forms.specs.declared.status.Status.TheVariants.{Done, Usage, ReadFault, TooLong, BadJson, BadJob, WriteFault, NoMemory}

-- the program's exit status
abbrev pub exit_number : Status → ℕ
exit_number Done = 0
exit_number Usage = 2
exit_number ReadFault = 3
exit_number TooLong = 4
exit_number BadJson = 5
exit_number (BadJob place reason) = 6
exit_number WriteFault = 7
exit_number NoMemory = 8
