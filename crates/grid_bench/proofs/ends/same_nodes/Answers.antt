use Rattle.std.proofs.Common.{◌≡◌, ◌≤◌, sym, ap, ◌∙◌, ◌&&◌, length, arith}
use Rattle.std.specs.Prelude.{eqb, slice_get}
use Rattle.std.proofs.lemmas.Bool.{and_parts, eqb-true, eq-eqb}
use Rattle.std.proofs.lemmas.List.{take_all}
use Rattle.std.proofs.lemmas.Option.{same_Some}
use Rattle.grid_level.specs.Passing.{nodes}
use Rattle.grid_bench.proofs.Made.{same_more}
use Rattle.grid_bench.proofs.ends.same_nodes.Goals as goal

pub loop-index-preserved : goal.loop-index-preserved
loop-index-preserved c =
    let ns = nodes c.args.level.now in
    let ms = nodes c.args.other.now in
    let i = c.loop-index.index in
    let n = c.node_at.result in
    let m = c.node_at-in-loop-index.result in
    record {
      forth = λ t.
          let parts = and_parts c.loop-index.same (eqb n m) t in
          same_more ns ms i n m c.node_at.ensures c.node_at-in-loop-index.ensures (c.loop-index.invariant.forth parts.0) (eqb-true n m parts.1);
      back = λ e.
          let here : n ≡ m = same_Some n m (sym c.node_at.ensures ∙ ap (λ z. slice_get z i) e ∙ c.node_at-in-loop-index.ensures) in
          ap (λ z. z && eqb n m) (c.loop-index.invariant.back e) ∙ eq-eqb n m here;
    }

pub returns : goal.returns
returns c =
    let ns = nodes c.args.level.now in
    let ms = nodes c.args.other.now in
    let many : length ns ≤ c.loop-index.index = omega (arith, c.node_count-index-end.ensures, c.loop-index-test.false) in
    let along : length ms ≤ c.loop-index.index = omega (arith, many, c.node_count.ensures, c.node_count-2.ensures, c.if-node_count.false) in (
      λ t. sym (take_all c.loop-index.index ns many) ∙ c.loop-index.invariant.forth t ∙ take_all c.loop-index.index ms along,
      c.loop-index.invariant.back,
    )
