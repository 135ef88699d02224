use Rattle.std.proofs.Common.{◌≡◌, take}
use Rattle.grid_configured.proofs.seeing.copies_of.Given as goal

abbrev pub invariant-loop-terminal : goal.invariant-loop-terminal
invariant-loop-terminal l = l.list ≡ take l.terminal-index l.terminals
