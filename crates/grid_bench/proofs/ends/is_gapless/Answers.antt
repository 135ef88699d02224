use Rattle.std.proofs.Common.{◌≡◌, sym, ap, ◌∙◌, suc, length, get_or, arith}
use Rattle.std.proofs.lemmas.Bool.{eqb-true}
use Rattle.std.proofs.lemmas.Option.{get_or_from_slice_get}
use Rattle.grid_level.specs.Passing.{nodes}
use Rattle.grid_bench.proofs.GaplessNodes.{gapless}
use Rattle.grid_bench.proofs.ends.is_gapless.Goals as goal

pub returns-in-Some : goal.returns-in-Some
returns-in-Some c t i lt =
    let ns = nodes c.args.level.now in
    let last = c.in-Some.last in
    let long : length ns ≡ suc last = omega (arith, c.node_count.ensures, c.in-Some.ensures) in
    let end : get_or ns last 0 ≡ last = get_or_from_slice_get ns last c.node_at.result 0 c.node_at.ensures ∙ sym c.from.ensures ∙ eqb-true c.from.result last t in
    gapless ns last c.keeps.ensures.nodes_rise long end i lt
