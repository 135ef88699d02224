use Rattle.std.proofs.Common.{◌≡◌, ◌≤◌, length}
use Rattle.grid_unions.proofs.JoinReversals.{AreOlder}
use Rattle.grid_unions.proofs.summed.Summed.back_to.Given as goal

abbrev pub invariant-loop-self : goal.invariant-loop-self
invariant-loop-self l = record {
  enough : l.mark ≤ length l.self.net.pairs;
  older : AreOlder l.fn.self.net l.self.net;
  kept : l.self.weights ≡ l.fn.self.weights;
}

abbrev pub decreases-loop-self : goal.decreases-loop-self
decreases-loop-self l = length l.self.net.pairs
