use Rattle.std.proofs.Common.{◌≡◌, ◌++◌, take}
use Rattle.std.specs.List.{flat_map}
use Rattle.grid_report.specs.Replies.{switch_line}
use Rattle.grid_report.proofs.reply.put_switches.Given as goal

-- the lines so far
abbrev pub invariant-loop-switch : goal.invariant-loop-switch
invariant-loop-switch l = l.out ≡ l.fn.out ++ flat_map (switch_line l.level) (take l.switch-index l.switches)
