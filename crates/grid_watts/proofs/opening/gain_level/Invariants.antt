use Rattle.std.proofs.Common.{take, ◌++◌}
use Rattle.grid_structure.specs.Sites.{levels}
use Rattle.grid_watts.proofs.TerminalSums.{all_placed}
use Rattle.grid_watts.proofs.Fronts.{IsFront}
use Rattle.grid_watts.proofs.opening.gain_level.Given as goal

abbrev pub invariant-loop-placed : goal.invariant-loop-placed
invariant-loop-placed l = IsFront (all_placed (take l.place (levels l.structure)) ++ take l.placed-index l.placed-items) l.powers
