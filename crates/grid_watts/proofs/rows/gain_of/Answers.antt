use Rattle.std.proofs.Common.{◌≡◌, true, subst, rules, arith}
use Rattle.std.proofs.lemmas.Int.{ints}
use mir.Syntax.{w64}
use mir.Val.{SFits}
use Rattle.grid_watts.specs.Ranges.{is_narrow}
use Rattle.grid_watts.proofs.SumBounds.{narrow_by}
use Rattle.grid_watts.proofs.rows.gain_of.Goals as goal

pub returns-clause-narrow : goal.returns-clause-narrow
returns-clause-narrow c =
    let wide : SFits w64 c.watts_of-watts.result = search rules in
    subst (λ w. is_narrow w ≡ true) c.watts_of-watts.ensures (narrow_by c.watts_of-watts.result (omega (arith, ints, wide)) (omega (arith, ints, wide)))
