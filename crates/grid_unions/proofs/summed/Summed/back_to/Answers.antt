use Rattle.std.proofs.Common.{◌≡◌, ◌<◌, ap, ◌∙◌, length, drop, arith, length-drop}
use Rattle.grid_unions.proofs.JoinReversals.{one_older}
use Rattle.grid_unions.proofs.summed.Summed.back_to.Goals as goal

pub loop-self-preserved : goal.loop-self-preserved
loop-self-preserved c =
    let now = c.loop-self.self.net in
    let some : 0 < length now.pairs = omega (arith, c.loop-self-test.true, c.mark.ensures) in
    let long : length c.take_back.new.self.net.pairs ≡ length (drop 1 now.pairs) = ap (λ w. length w.net.pairs) c.take_back.ensures in
    record {
      enough = omega (arith, long, length-drop 1 now.pairs, c.loop-self-test.true, c.mark.ensures);
      older = one_older c.args.self.now.net now c.take_back.new.self.net c.loop-self.invariant.older some (ap (λ w. w.net) c.take_back.ensures);
      kept = ap (λ w. w.weights) c.take_back.ensures ∙ c.loop-self.invariant.kept;
    }
