use Rattle.std.proofs.Common.{◌≡◌, ◌<◌, ◌≤◌, sym, ap, ◌∙◌, ℕ, List, length, get_or, arith}
use Rattle.std.specs.Prelude.{bit_or}
use Rattle.std.proofs.lemmas.Bool.{eqb-true, eq-eqb}
use Rattle.std.proofs.lemmas.List.{take_all}
use Rattle.std.proofs.lemmas.Option.{slice_get-get_or}
use Rattle.grid_bench.proofs.BitDifferences.{none_gathered}
use Rattle.grid_bench.proofs.Made.{same_more}
use Rattle.grid_bench.proofs.ends.same_pairs.Goals as goal

pub loop-place-preserved : goal.loop-place-preserved
loop-place-preserved c =
    let xs = c.args.list.now in
    let ys = c.args.others.now in
    let i = c.loop-place.place in
    let x : ℕ × ℕ = get_or xs i (0, 0) in
    let y : ℕ × ℕ = get_or ys i (0, 0) in
    let under : i < length ys = omega (arith, c.loop-place-test.true, c.if-list-others.false) in
    record {
      forth = λ t.
          let all = none_gathered c.loop-place.differences c.difference-differences.result t in
          same_more xs ys i x y (slice_get-get_or xs i (0, 0) c.loop-place-test.true) (slice_get-get_or ys i (0, 0) under) (c.loop-place.invariant.forth all.0) (c.difference-differences.ensures.0 all.1);
      back = λ e.
          let here : x ≡ y = ap (λ (zs : List (ℕ × ℕ)). get_or zs i (0, 0)) e in
          ap (λ z. bit_or z c.difference-differences.result) (c.loop-place.invariant.back e) ∙ ap (λ z. bit_or 0 z) (c.difference-differences.ensures.1 here);
    }

pub returns : goal.returns
returns c =
    let i = c.loop-place.place in
    let many : length c.args.list.now ≤ i = omega (arith, c.loop-place-test.false) in
    let along : length c.args.others.now ≤ i = omega (arith, many, c.if-list-others.false) in (
      λ t. sym (take_all i c.args.list.now many) ∙ c.loop-place.invariant.forth (eqb-true c.loop-place.differences 0 t) ∙ take_all i c.args.others.now along,
      λ e. eq-eqb c.loop-place.differences 0 (c.loop-place.invariant.back e),
    )
