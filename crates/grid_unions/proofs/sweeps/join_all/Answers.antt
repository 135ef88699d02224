use Rattle.std.proofs.Common.{ap, sym, ◌∙◌, get_or, take}
use Rattle.std.proofs.lemmas.List.{take_more}
use Rattle.grid_unions.specs.Halves.{with_joined}
use Rattle.grid_unions.proofs.Joins.{joined_more}
use Rattle.grid_unions.proofs.sweeps.join_all.Goals as goal

pub loop-a-preserved : goal.loop-a-preserved
loop-a-preserved c =
    joined_more c.args.summed.now c.loop-a.summed c.join.new.self (take c.loop-a.a-index c.args.pairs.now) (get_or c.args.pairs.now c.loop-a.a-index (0, 0)) c.loop-a.invariant (c.in_ok-join.ensures).ok
    ∙ ap (with_joined c.args.summed.now) (sym (take_more c.args.pairs.now c.loop-a.a-index (0, 0) c.loop-a-test.true))
