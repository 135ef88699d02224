-- Of which status a line on standard error tells.
use Rattle.std.specs.Prelude.{ℕ}
use Rattle.grid_lines.specs.declared.fault.RunFault.{RunFault}
use Rattle.grid_lines.specs.declared.fault.RunFault.TheVariants.{Usage, ReadFault, NoRandomBytes, TooLong, BadJson, BadJob, WriteFault, NoMemory}

-- the exit status of the program that tells a line
abbrev pub told_number : RunFault → ℕ
told_number (Usage why hint) = 2
told_number (ReadFault is_directory) = 3
told_number NoRandomBytes = 3
told_number TooLong = 4
told_number (BadJson why) = 5
told_number (BadJob place owner why) = 6
told_number WriteFault = 7
told_number NoMemory = 8
