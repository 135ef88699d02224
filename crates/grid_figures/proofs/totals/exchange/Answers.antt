use Rattle.std.proofs.Common.{◌≡◌, arith, rules}
use Rattle.std.proofs.lemmas.Int.{ints, to_z-of_z}
use mir.Syntax.{w128}
use mir.Val.{SFits, to_z, of_z}
use Rattle.grid_figures.proofs.totals.exchange.Goals as goal

pub returns-clause-load : goal.returns-clause-load
returns-clause-load c =
    let new = c.in_ok-plus.field-0 in
    let fits : SFits w128 new = search rules in
    let same : to_z w128 (of_z w128 new) ≡ new = to_z-of_z w128 new fits in
    rw same (omega (arith, ints, c.in_ok-plus.ensures, c.in_ok-minus.ensures, c.in_ok-less.ensures.load, c.in_ok-more.ensures.load))

pub returns-clause-generation : goal.returns-clause-generation
returns-clause-generation c =
    let new = c.in_ok-plus-2.field-0 in
    let fits : SFits w128 new = search rules in
    let same : to_z w128 (of_z w128 new) ≡ new = to_z-of_z w128 new fits in
    rw same (omega (arith, ints, c.in_ok-plus-2.ensures, c.in_ok-minus-2.ensures, c.in_ok-less.ensures.generation, c.in_ok-more.ensures.generation))
