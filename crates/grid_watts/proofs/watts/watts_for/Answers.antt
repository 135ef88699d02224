use Rattle.std.proofs.Common.{ap, sym, ◌∙◌, rules, arith, pos}
use Rattle.std.specs.Prelude.{unwrap_or}
use Rattle.std.proofs.lemmas.Int.{ints, to_z-of_z}
use mir.Syntax.{w64}
use mir.Val.{SFits}
use Rattle.grid_powers.specs.Listed.{value_in}
use Rattle.grid_watts.proofs.SumBounds.{narrow_by}
use Rattle.grid_watts.proofs.EquipmentShares.{unpowered_watts}
use Rattle.grid_watts.proofs.RecordWatts.{powered_watts}
use Rattle.grid_watts.proofs.watts.watts_for.Goals as goal

pub returns-then-is_powered-clause-watts : goal.returns-then-is_powered-clause-watts
returns-then-is_powered-clause-watts c =
    let wide : SFits w64 c.unwrap_or.result = search rules in
    let own : SFits w64 c.watts_of.result = search rules in
    to_z-of_z w64 c.unwrap_or.result wide ∙ c.unwrap_or.ensures ∙ ap (unwrap_or c.value.result) (to_z-of_z w64 c.watts_of.result own) ∙ ap (λ o. unwrap_or o c.watts_of.result) c.value.ensures
    ∙ ap (unwrap_or (value_in c.args.powers.now.listed c.args.id.now)) c.watts_of.ensures
    ∙ sym (powered_watts c.args.powers.now.listed c.args.id.now c.args.stand.now (sym c.is_powered.ensures ∙ c.if-is_powered.true))

pub returns-else-is_powered-clause-watts : goal.returns-else-is_powered-clause-watts
returns-else-is_powered-clause-watts c = sym (unpowered_watts c.args.powers.now.listed c.args.id.now c.args.stand.now (sym c.is_powered.ensures ∙ c.if-is_powered.false))

pub returns-then-is_powered-clause-narrow : goal.returns-then-is_powered-clause-narrow
returns-then-is_powered-clause-narrow c =
    let wide : SFits w64 c.unwrap_or.result = search rules in
    rw (to_z-of_z w64 c.unwrap_or.result wide) (narrow_by c.unwrap_or.result (omega (arith, ints, wide)) (omega (arith, ints, wide)))

pub returns-else-is_powered-clause-narrow : goal.returns-else-is_powered-clause-narrow
returns-else-is_powered-clause-narrow c = narrow_by (pos 0) (omega (arith, ints)) (omega (arith, ints))
