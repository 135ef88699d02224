use Rattle.std.proofs.Common.{◌≤◌, length}
use Rattle.grid_unions.proofs.JoinReversals.{AreOlder}
use Rattle.grid_unions.proofs.unions.Unions.back_to.Given as goal

abbrev pub invariant-loop-self : goal.invariant-loop-self
invariant-loop-self l = record {
  enough : l.mark ≤ length l.self.pairs;
  older : AreOlder l.fn.self l.self;
}

abbrev pub decreases-loop-self : goal.decreases-loop-self
decreases-loop-self l = length l.self.pairs
