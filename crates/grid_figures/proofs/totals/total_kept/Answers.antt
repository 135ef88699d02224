use Rattle.std.proofs.Common.{◌≡◌, sym, ap, ◌∙◌, ℕ, List, [], length, get_or, refl, arith, add-one, subst}
use Rattle.std.proofs.lemmas.Int.{ints}
use Rattle.std.proofs.lemmas.List.{get_or_default}
use Rattle.grid_graph.specs.Components.{places}
use Rattle.grid_unions.specs.declared.summed.Sums.{Sums}
use Rattle.grid_figures.specs.Figures.{total_sum}
use Rattle.grid_figures.specs.Networks.{AreTotals}
use Rattle.grid_figures.specs.Outages.{level_sums, sums_before}
use Rattle.grid_figures.proofs.Blocks.{blocks, long_more}
use Rattle.grid_figures.proofs.Exchanges.{total_block, total_none}
use Rattle.grid_figures.proofs.totals.total_kept.Goals as goal

pub loop-sums-init : goal.loop-sums-init
unfolding sums_before places total_sum
loop-sums-init c = record { buses = refl; load = refl; generation = refl }

pub loop-sums-preserved : goal.loop-sums-preserved
unfolding sums_before level_sums
loop-sums-preserved c =
    let kept = c.args.kept.now in
    let f : ℕ → List Sums = level_sums kept [] in
    let i = c.loop-sums.sums-index in
    let inv = c.loop-sums.invariant in
    let buses = inv.buses in let load = inv.load in let generation = inv.generation in
    let new = c.in_ok-totals.ensures in
    let new_buses = new.buses in let new_load = new.load in let new_generation = new.generation in
    let is : c.slice.result.now ≡ get_or kept i [] = c.slice.ensures ∙ c.sums-item.is ∙ get_or_default kept i _ [] c.loop-sums-test.true in
    let P : ℕ → Type 0 = λ n. AreTotals (blocks f n) c.in_ok-totals.totals in
    subst P (sym (add-one i)) (record {
      buses = omega (arith, new_buses, buses, ap length is, long_more f i);
      load = omega (arith, ints, new_load, load, ap (total_sum (λ s. s.load)) is, total_block (λ s. s.load) f i, total_none (λ s. s.load));
      generation = omega (arith, ints, new_generation, generation, ap (total_sum (λ s. s.generation)) is, total_block (λ s. s.generation) f i, total_none (λ s. s.generation));
    })
