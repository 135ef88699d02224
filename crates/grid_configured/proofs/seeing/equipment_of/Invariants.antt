use Rattle.std.proofs.Common.{◌≡◌, map, take}
use Rattle.grid_configured.proofs.seeing.equipment_of.Given as goal

abbrev pub invariant-loop-terminal : goal.invariant-loop-terminal
invariant-loop-terminal l = l.ids ≡ map (λ t. t.equipment) (take l.terminal-index l.terminals)
