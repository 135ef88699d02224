use Rattle.std.proofs.Common.{◌≡◌, take}
use Rattle.std.specs.Prelude.{map}
use Rattle.grid_configured.specs.Partial.{joint_at}
use Rattle.grid_configured.proofs.level_lists.joints_of.Given as goal

abbrev pub invariant-loop-switch : goal.invariant-loop-switch
invariant-loop-switch l = l.made ≡ map (joint_at l.level) (take l.switch-index l.switch-items)
