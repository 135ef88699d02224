use Rattle.grid_watts.specs.Watts.{terminals_before}
use Rattle.grid_watts.specs.Ranges.{HasSumsOf}
use Rattle.grid_watts.proofs.opening.opening_powers.Given as goal

abbrev pub invariant-loop-place : goal.invariant-loop-place
invariant-loop-place l = HasSumsOf (terminals_before l.structure l.place) l.powers
