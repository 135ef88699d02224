use Rattle.std.proofs.Common.{ap, ◌∙◌, pos, ◌+ℤ◌}
use Rattle.std.specs.Prelude.{fold}
use Rattle.std.proofs.lemmas.List.{take_all}
use Rattle.grid_unions.specs.declared.summed.Sums.{Sums}
use Rattle.grid_figures.specs.Figures.{total_sum}
use Rattle.grid_figures.proofs.Exchanges.{total_more}
use Rattle.grid_figures.proofs.totals.sum_all.Goals as goal

pub loop-bus-preserved : goal.loop-bus-preserved
loop-bus-preserved c =
    let sums = c.args.sums.now in
    let i = c.loop-bus.bus-index in
    record {
      load = c.in_ok-total.ensures.load ∙ total_more (λ s. s.load) sums i _ c.loop-bus.total.load c.loop-bus-test.true c.loop-bus.invariant.load;
      generation = c.in_ok-total.ensures.generation ∙ total_more (λ s. s.generation) sums i _ c.loop-bus.total.generation c.loop-bus-test.true c.loop-bus.invariant.generation;
    }

pub returns-clause-load : goal.returns-clause-load
unfolding total_sum
returns-clause-load c = c.loop-bus.invariant.load ∙ ap (fold (λ total (s : Sums). total +ℤ s.load) (pos 0)) (take_all c.loop-bus.bus-index c.args.sums.now c.loop-bus-test.false)

pub returns-clause-generation : goal.returns-clause-generation
unfolding total_sum
returns-clause-generation c = c.loop-bus.invariant.generation ∙ ap (fold (λ total (s : Sums). total +ℤ s.generation) (pos 0)) (take_all c.loop-bus.bus-index c.args.sums.now c.loop-bus-test.false)
