use Rattle.std.proofs.Common.{sym, ap, ◌∙◌, ◌<◌, length, arith, inl, inr, subst}
use Rattle.std.proofs.lemmas.Bool.{cases_eq}
use Rattle.std.proofs.lemmas.List.{get_or_default}
use Rattle.grid_figures.specs.declared.outage.ChangedSums.{ChangedSums}
use Rattle.grid_figures.specs.Layouts.{part_at, no_part}
use Rattle.grid_figures.specs.Networks.{IsNext, is_filled}
use Rattle.grid_figures.proofs.FirstLevels.{filled_here, filled_nowhere}
use Rattle.grid_figures.proofs.network.first_filled.Goals as goal

pub loop-changed-init : goal.loop-changed-init
loop-changed-init c = λ k lt. absurd (omega (arith, lt))

pub loop-changed-preserved : goal.loop-changed-preserved
loop-changed-preserved c = λ k lt. elim (cases_eq k c.loop-changed.changed-index) [
  | inl same ↦ (let levels = c.args.levels.now in
      let i = c.loop-changed.changed-index in
      let is = ap (λ (z : ChangedSums). length z.sums) (c.changed-item.is ∙ get_or_default levels i c.changed-item.result no_part c.loop-changed-test.true) in
      omega (arith, is, ap (λ z. length (part_at levels z).sums) same, c.len.ensures, c.if-len-gt0.false))
  | inr other ↦ c.loop-changed.invariant k (omega (arith, lt, other))
]

pub returns-then-len-gt0 : goal.returns-then-len-gt0
returns-then-len-gt0 c =
    let levels = c.args.levels.now in
    let i = c.loop-changed.changed-index in
    let lt = c.loop-changed-test.true in
    let item = c.changed-item.is ∙ get_or_default levels i c.changed-item.result no_part lt in
    let some : 0 < length (part_at levels i).sums = omega (arith, ap (λ (z : ChangedSums). length z.sums) item, c.len.ensures, c.if-len-gt0.true) in
    let P : ChangedSums → Type 0 = λ z. IsNext (is_filled levels) c.args.count 0 z.level in
    subst P (sym item) (filled_here levels c.requires.rising c.args.count c.requires.levels i lt c.loop-changed.invariant some)

pub returns : goal.returns
returns c =
    filled_nowhere c.args.levels.now c.requires.rising c.args.count c.requires.levels (λ k lt. c.loop-changed.invariant k (omega (arith, lt, c.loop-changed-test.false)))
