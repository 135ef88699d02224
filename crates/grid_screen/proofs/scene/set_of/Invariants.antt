use Rattle.std.proofs.Common.{take}
use Rattle.grid_json.specs.Seen.{Knows}
use Rattle.grid_screen.proofs.scene.set_of.Given as goal

abbrev pub invariant-loop-id : goal.invariant-loop-id
invariant-loop-id l = Knows l.set (take l.id-index l.ids)
