use Rattle.std.proofs.Common.{◌≡◌, ◌<◌, ◌≤◌, sym, ap, ◌∙◌, ◌&&◌, Bool, false, List, length, get_or, arith}
use Rattle.std.specs.Bool.{beq}
use Rattle.std.proofs.lemmas.Bool.{and_parts}
use Rattle.std.proofs.lemmas.List.{take_all}
use Rattle.std.proofs.lemmas.Option.{slice_get-get_or}
use Rattle.grid_bench.proofs.Made.{same_more}
use Rattle.grid_bench.proofs.FlagUpdates.{beq_same, beq_refl}
use Rattle.grid_board.proofs.comparing.same_flags.Goals as goal

pub loop-place-preserved : goal.loop-place-preserved
loop-place-preserved c =
    let xs = c.args.flags.now in
    let ys = c.args.others.now in
    let i = c.loop-place.place in
    let x = get_or xs i false in
    let y = get_or ys i false in
    let under : i < length ys = omega (arith, c.loop-place-test.true, c.if-flags-others.false) in
    record {
      forth = λ t.
          let parts = and_parts c.loop-place.same (beq x y) t in
          same_more xs ys i x y (slice_get-get_or xs i false c.loop-place-test.true) (slice_get-get_or ys i false under) (c.loop-place.invariant.forth parts.0) (beq_same x y parts.1);
      back = λ e.
          let here : x ≡ y = ap (λ (zs : List Bool). get_or zs i false) e in
          ap (λ z. z && beq x y) (c.loop-place.invariant.back e) ∙ ap (beq x) (sym here) ∙ beq_refl x;
    }

pub returns : goal.returns
returns c =
    let i = c.loop-place.place in
    let many : length c.args.flags.now ≤ i = omega (arith, c.loop-place-test.false) in
    let along : length c.args.others.now ≤ i = omega (arith, many, c.if-flags-others.false) in (
      λ t. sym (take_all i c.args.flags.now many) ∙ c.loop-place.invariant.forth t ∙ take_all i c.args.others.now along,
      c.loop-place.invariant.back,
    )
