use Rattle.std.proofs.Common.{rules, arith}
use Rattle.std.proofs.lemmas.Int.{ints}
use mir.Syntax.{w64}
use mir.Val.{SFits}
use Rattle.grid_watts.proofs.SumBounds.{narrow_by}
use Rattle.grid_watts.proofs.rows.change_of.Goals as goal

pub returns-clause-narrow : goal.returns-clause-narrow
returns-clause-narrow c = let wide : SFits w64 c.args.watts = search rules in narrow_by c.args.watts (omega (arith, ints, wide)) (omega (arith, ints, wide))
