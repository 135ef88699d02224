use Rattle.std.proofs.Common.{◌≡◌, ap, ◌∙◌, ℕ, Bool, length, arith}
use Rattle.grid_bench.specs.Contents.{Content, content}
use Rattle.grid_bench.specs.Costs.{differs_at, count_before, count_changes}
use Rattle.grid_bench.proofs.PlaceCounts.{counted_none, counted_within}
use Rattle.grid_bench.proofs.kept.Kept.count_changes.Goals as goal

pub loop-start-init : goal.loop-start-init
loop-start-init c = record { counted = counted_none (differs_at c.args.self.now (content c.args.self.now.level c.args.opened.now c.args.retained.now)); within = omega arith }

pub overflow_add-count : goal.overflow_add-count
overflow_add-count c =
    let now = c.args.self.now in
    let p : ℕ → Bool = differs_at now (content now.level c.args.opened.now c.args.retained.now) in
    omega (
      arith,
      c.loop-start.invariant.counted,
      c.count_between.ensures,
      c.from-count.ensures,
      counted_within p c.min-end.result,
      c.keeps.ensures.few,
      c.requires.opened,
    )

pub returns : goal.returns
unfolding count_changes
returns c =
    let now = c.args.self.now in
    let new : Content = content now.level c.args.opened.now c.args.retained.now in
    let end : c.loop-start.start ≡ length now.level.switches = omega (arith, c.loop-start-test.false, c.loop-start.invariant.within, c.requires.opened) in
    c.loop-start.invariant.counted ∙ ap (count_before now new) end
