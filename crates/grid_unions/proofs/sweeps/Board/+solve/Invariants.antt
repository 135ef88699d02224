use Rattle.std.proofs.Common.{length}
use Rattle.grid_unions.proofs.sweeps.Board.+solve.Given as goal

abbrev pub decreases-solve : goal.decreases-solve
decreases-solve l = length l.changes.now
