use Rattle.std.proofs.Common.{◌≡◌, sym, ap, ◌∙◌, ℕ, List, [], length, get_or, arith}
use Rattle.std.proofs.lemmas.Int.{ints}
use Rattle.std.proofs.lemmas.List.{get_or_default}
use Rattle.grid_unions.specs.declared.summed.Sums.{Sums}
use Rattle.grid_figures.specs.declared.outage.ChangedSums.{ChangedSums}
use Rattle.grid_figures.specs.Figures.{total_sum}
use Rattle.grid_figures.specs.Layouts.{part_at, no_part}
use Rattle.grid_figures.specs.Outages.{sums_before}
use Rattle.grid_figures.proofs.Exchanges.{before, after, before_here, after_here, other_same, long_exchanged, total_exchanged}
use Rattle.grid_figures.proofs.totals.total_under.Goals as goal

pub loop-changed-preserved : goal.loop-changed-preserved
unfolding sums_before
loop-changed-preserved c =
    let kept = c.args.kept.now in
    let levels = c.args.levels.now in
    let rise = c.requires.rising in
    let i = c.loop-changed.changed-index in
    let lt = c.loop-changed-test.true in
    let m = (part_at levels i).level in
    let f : ℕ → List Sums = before kept levels rise i lt in
    let g : ℕ → List Sums = after kept levels rise i lt in
    let same = other_same kept levels rise i lt in
    let below = c.requires.levels i no_part lt in
    let inv = c.loop-changed.invariant in
    let buses = inv.buses in let load = inv.load in let generation = inv.generation in
    let now = c.in_ok-totals.ensures in
    let now_buses = now.buses in let now_load = now.load in let now_generation = now.generation in
    let item : c.changed-item.result ≡ part_at levels i = c.changed-item.is ∙ get_or_default levels i _ no_part lt in
    let level : c.changed-item.result.level ≡ m = ap (λ (z : ChangedSums). z.level) item in
    let read : List Sums = c.index-kept-changed.result in
    let old : c.slice.result.now ≡ f m = c.slice.ensures ∙ c.index-kept-changed.is ∙ ap (λ z. get_or kept z read) level ∙ get_or_default kept m read [] below ∙ sym (before_here kept levels rise i lt) in
    let new : c.slice-in-loop-changed.result.now ≡ g m = c.slice-in-loop-changed.ensures ∙ ap (λ (z : ChangedSums). z.sums) item ∙ sym (after_here kept levels rise i lt) in
    record {
      buses = omega (arith, now_buses, buses, ap length old, ap length new, long_exchanged f g m same (length kept) below);
      load = omega (arith, ints, now_load, load, ap (total_sum (λ s. s.load)) old, ap (total_sum (λ s. s.load)) new, total_exchanged f g m same (λ s. s.load) (length kept) below);
      generation = omega (arith, ints, now_generation, generation, ap (total_sum (λ s. s.generation)) old, ap (total_sum (λ s. s.generation)) new, total_exchanged f g m same (λ s. s.generation) (length kept) below);
    }
