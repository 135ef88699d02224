-- A level that may have a copy of its own.
use Rattle.std.specs.Prelude.{Option, Some, None}
use Rattle.grid_level.specs.VoltageLevel.{VoltageLevel}

-- the copy, if there is one, and else the level
abbrev pub copy_or : Option VoltageLevel → VoltageLevel → VoltageLevel
copy_or (Some copy) level = copy
copy_or None level = level
