use Rattle.std.proofs.Common.{◌≡◌, ◌++◌, false}
use Rattle.std.specs.Prelude.{flat_map, drop}
use Rattle.grid_screen.specs.Faults.{switch_ids}
use Rattle.grid_screen.proofs.Written.{rest_text}
use Rattle.grid_screen.proofs.write.put_switch_ids.Given as goal

-- with the text of what is left it is the whole text
abbrev pub invariant-loop-at : goal.invariant-loop-at
invariant-loop-at l = l.out ++ rest_text l.later (flat_map (switch_ids l.structure) (drop l.at-index l.switches)) ≡ l.initial.out ++ rest_text false (flat_map (switch_ids l.structure) l.switches)
