use Rattle.std.proofs.Common.{◌≡◌, ◌++◌, take}
use Rattle.std.specs.List.{flat_map}
use Rattle.grid_report.specs.Replies.{plain_line}
use Rattle.grid_report.proofs.reply.put_plains.Given as goal

-- the lines so far
abbrev pub invariant-loop-bus : goal.invariant-loop-bus
invariant-loop-bus l = l.out ≡ l.fn.out ++ flat_map (plain_line l.level) (take l.bus-index l.buses)
