use Rattle.grid_figures.proofs.FirstLevels.{AreFreeBelow}
use Rattle.grid_figures.proofs.network.Network.first_free.Given as goal

abbrev pub invariant-loop-changed : goal.invariant-loop-changed
invariant-loop-changed l = AreFreeBelow l.self.kept.now l.levels l.changed-index l.level
