use Rattle.std.proofs.Common.{ap, sym, ◌∙◌, rules, arith, pos}
use Rattle.std.specs.Prelude.{unwrap_or}
use Rattle.std.proofs.lemmas.Int.{ints, to_z-of_z}
use mir.Syntax.{w64}
use mir.Val.{SFits}
use Rattle.grid_states.specs.Pairs.{value_at}
use Rattle.grid_states.specs.Rows.{pairs_at}
use Rattle.grid_watts.proofs.RowWatts.{row_powered, row_unpowered}
use Rattle.grid_watts.proofs.SumBounds.{narrow_by}
use Rattle.grid_watts.proofs.rows.watts_in.Goals as goal

pub returns-then-is_powered-clause-watts : goal.returns-then-is_powered-clause-watts
returns-then-is_powered-clause-watts c =
    let wide : SFits w64 c.unwrap_or.result = search rules in
    let own : SFits w64 c.watts_of.result = search rules in
    let row = pairs_at c.args.states.now.watts c.args.level in
    to_z-of_z w64 c.unwrap_or.result wide ∙ c.unwrap_or.ensures ∙ ap (unwrap_or c.watts.result) (to_z-of_z w64 c.watts_of.result own) ∙ ap (λ o. unwrap_or o c.watts_of.result) c.watts.ensures
    ∙ ap (unwrap_or (value_at c.args.placed.now.node row)) c.watts_of.ensures
    ∙ sym (row_powered row c.args.placed.now (sym c.is_powered.ensures ∙ c.if-is_powered.true))

pub returns-else-is_powered-clause-watts : goal.returns-else-is_powered-clause-watts
returns-else-is_powered-clause-watts c = sym (row_unpowered (pairs_at c.args.states.now.watts c.args.level) c.args.placed.now (sym c.is_powered.ensures ∙ c.if-is_powered.false))

pub returns-then-is_powered-clause-narrow : goal.returns-then-is_powered-clause-narrow
returns-then-is_powered-clause-narrow c =
    let wide : SFits w64 c.unwrap_or.result = search rules in
    rw (to_z-of_z w64 c.unwrap_or.result wide) (narrow_by c.unwrap_or.result (omega (arith, ints, wide)) (omega (arith, ints, wide)))

pub returns-else-is_powered-clause-narrow : goal.returns-else-is_powered-clause-narrow
returns-else-is_powered-clause-narrow c = narrow_by (pos 0) (omega (arith, ints)) (omega (arith, ints))
