use Rattle.std.proofs.Common.{◌≡◌, ◌<◌, ap, length, drop, arith, length-drop}
use Rattle.grid_unions.proofs.JoinReversals.{one_older}
use Rattle.grid_unions.proofs.unions.Unions.back_to.Goals as goal

pub loop-self-preserved : goal.loop-self-preserved
loop-self-preserved c =
    let some : 0 < length c.loop-self.self.pairs = omega (arith, c.loop-self-test.true, c.mark.ensures) in
    let long : length c.take_back.new.self.pairs ≡ length (drop 1 c.loop-self.self.pairs) = ap (λ g. length g.pairs) c.take_back.ensures in
    record {
      enough = omega (arith, long, length-drop 1 c.loop-self.self.pairs, c.loop-self-test.true, c.mark.ensures);
      older = one_older c.args.self.now c.loop-self.self c.take_back.new.self c.loop-self.invariant.older some c.take_back.ensures;
    }
