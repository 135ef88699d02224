use Rattle.std.proofs.Common.{ℕ, Bool, arith}
use Rattle.grid_bench.specs.Contents.{content}
use Rattle.grid_bench.specs.Costs.{differs_at}
use Rattle.grid_bench.proofs.PlaceCounts.{counted_step, one_within}
use Rattle.grid_bench.proofs.kept.Kept.count_between.Goals as goal

pub loop-place-preserved : goal.loop-place-preserved
unfolding differs_at
loop-place-preserved c =
    let now = c.args.self.now in
    let p : ℕ → Bool = differs_at now (content now.level c.args.opened.now c.args.retained.now) in
    record {
      counted = counted_step p c.args.start c.loop-place.place c.loop-place.count c.from-count.result c.differs.result c.loop-place.invariant.counted c.differs.ensures c.from-count.ensures;
      few = omega (arith, c.loop-place.invariant.few, c.from-count.ensures, one_within c.differs.result);
    }
