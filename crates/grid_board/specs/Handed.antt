-- What a caller is handed of a step.
use Rattle.std.specs.Prelude.{Bool, if◌then◌else◌, Option, Some, None}
use Rattle.grid_core.specs.declared.reply.Reply.{Reply}

-- the reply, where it is told
abbrev pub handed : Bool → Reply → Option Reply
handed told reply = if told then Some reply else None
