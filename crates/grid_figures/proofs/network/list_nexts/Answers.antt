use Rattle.std.proofs.Common.{◌≡◌, sym, ap, ◌∙◌, ◌+◌, ◌-◌, ◌<◌, ℕ, zero, suc, List, length, get_or, set, arith, inl, inr, subst, refl, get_or-set_same, get_or-set_other, length-set, replicate}
use Rattle.std.proofs.Math.ListN.{length-replicate}
use Rattle.std.proofs.lemmas.Bool.{cases_eq}
use Rattle.grid_figures.specs.Networks.{IsNext, has_kept}
use Rattle.grid_figures.proofs.FirstLevels.{next_end}
use Rattle.grid_figures.proofs.network.list_nexts.Goals as goal

all_same : (n k x : ℕ) → k < n → get_or (replicate n x) k 0 ≡ x
all_same zero k x lt = absurd (omega arith)
all_same (suc n) zero x lt = refl
all_same (suc n) (suc k) x lt = all_same n k x (omega (arith, lt))

pub loop-level-init : goal.loop-level-init
loop-level-init c =
    let kept = c.args.kept.now in
    let n : ℕ = length kept in
    let e : c.in_ok-nexts.nexts.items ≡ replicate (n + 1) c.in_ok-count.count = c.in_ok-nexts.ensures.items_if_clones_equal (λ y h. h) in
    record {
      low = omega arith;
      long = ap length e ∙ length-replicate (n + 1) c.in_ok-count.count;
      each = λ k le less. (let same : n ≡ k = omega (arith, le, less) in
          let got : n ≡ get_or c.in_ok-nexts.nexts.items n 0 = sym (ap (λ z. get_or z n 0) e ∙ all_same (n + 1) n c.in_ok-count.count (omega arith) ∙ c.in_ok-count.ensures.value) in
          let P : ℕ → Type 0 = λ z. IsNext (has_kept kept) n z (get_or c.in_ok-nexts.nexts.items z 0) in
          subst P same (subst (IsNext (has_kept kept) n n) got (next_end kept)));
    }

pub next_from-requires-clause-later : goal.next_from-requires-clause-later
next_from-requires-clause-later c =
    let kept = c.args.kept.now in
    let low = c.loop-level.invariant.low in
    let at = c.loop-level.level - 1 + 1 in
    let P : List ℕ → Type 0 = λ z. IsNext (has_kept kept) (length kept) at (get_or z at 0) in
    subst P (sym c.deref.ensures.value) (c.loop-level.invariant.each at (omega (arith, c.loop-level-test.true)) (omega (arith, low, c.loop-level-test.true)))

pub next_from-requires-clause-few : goal.next_from-requires-clause-few
next_from-requires-clause-few c = omega (arith, c.in_ok-count.ensures.value, c.in_ok-count.ensures.few)

pub loop-level-preserved : goal.loop-level-preserved
loop-level-preserved c =
    let kept = c.args.kept.now in
    let nexts = c.loop-level.nexts.items in
    let level : ℕ = c.loop-level.level - 1 in
    let next = c.next_from.result in
    let inv = c.loop-level.invariant in
    let low = inv.low in let long = inv.long in
    let some = c.loop-level-test.true in
    let inside : level < length nexts = omega (arith, low, long, some) in
    record {
      low = omega (arith, low);
      long = length-set nexts level next ∙ long;
      each = λ k le less. elim (cases_eq k level) [
        | inl same ↦ (let P : ℕ → ℕ → Type 0 = λ at z. IsNext (has_kept kept) (length kept) at z in
            let e : next ≡ get_or (set nexts level next) k 0 = sym (ap (λ z. get_or (set nexts level next) z 0) same ∙ get_or-set_same nexts level next 0 inside) in
            subst (λ z. P z (get_or (set nexts level next) k 0)) (sym same) (subst (P level) e c.next_from.ensures))
        | inr other ↦ subst (IsNext (has_kept kept) (length kept) k) (sym (get_or-set_other nexts level k next 0 other)) (inv.each k (omega (arith, le, other, some)) less)
      ];
    }

pub returns : goal.returns
returns c =
    let inv = c.loop-level.invariant in
    record { long = inv.long; each = λ level le. inv.each level (omega (arith, c.loop-level-test.false)) le }
