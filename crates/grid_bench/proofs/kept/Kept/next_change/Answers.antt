use Rattle.std.proofs.Common.{sym, ◌∙◌, ℕ, Bool}
use Rattle.grid_bench.specs.Contents.{content}
use Rattle.grid_bench.specs.Costs.{differs_at, count_before}
use Rattle.grid_bench.proofs.PlaceCounts.{counted_no}
use Rattle.grid_bench.proofs.kept.Kept.next_change.Goals as goal

pub loop-place-preserved : goal.loop-place-preserved
unfolding differs_at
loop-place-preserved c =
    let now = c.args.self.now in
    let new = content now.level c.args.opened.now c.args.retained.now in
    let p : ℕ → Bool = differs_at now new in
    counted_no p c.loop-place.place (count_before now new c.args.from) c.loop-place.invariant (sym c.differs.ensures ∙ c.if-differs.false)

pub returns-then-differs-clause-found : goal.returns-then-differs-clause-found
unfolding differs_at
returns-then-differs-clause-found c = λ lt. sym c.differs.ensures ∙ c.if-differs.true
