use Rattle.std.proofs.Common.{sym, ◌∙◌}
use Rattle.grid_configured.specs.Checks.{end_check}
use Rattle.grid_configured.specs.Standing.{count_at, spot_of, tally_at}
use Rattle.grid_configured.proofs.Ends.{end_as, end_stands, no_level, nothing_found}
use Rattle.grid_configured.proofs.LevelParts.{fails_on}
use Rattle.grid_json.specs.Reading.{Fails}
use Rattle.std.proofs.Common.{subst}
use Rattle.grid_configured.proofs.standing.Standing.check_end.Goals as goal

pub returns-in_default-clause-check : goal.returns-in_default-clause-check
returns-in_default-clause-check c ids levels ends stands =
    let now = c.args.self.now in
    let e = c.args.end.now in
    rw c.refused.ensures (no_level ids levels ends now stands e (nothing_found (spot_of e.bus (count_at now.ends e.level) now.switches) (tally_at now.levels e.level) c.in_default.ensures.spot))

pub returns-in_err-check_spot-clause-check : goal.returns-in_err-check_spot-clause-check
returns-in_err-check_spot-clause-check c ids levels ends stands =
    let e = c.args.end.now in
    let same = end_as ids levels ends c.args.self.now stands e c.in-Some.spot (sym c.in-Some.ensures.spot) in
    fails_on c.from_residual.result c.in_err-check_spot.field-0.0 (end_check levels ends e) c.from_residual.ensures.1 (subst (Fails c.in_err-check_spot.field-0.0) (sym same) c.in_err-check_spot.ensures.check)

pub returns-in-Ok-clause-check : goal.returns-in-Ok-clause-check
returns-in-Ok-clause-check c ids levels ends stands = end_as ids levels ends c.args.self.now stands c.args.end.now c.in-Some.spot (sym c.in-Some.ensures.spot) ∙ c.in_ok-check_spot.ensures.check

pub returns-in-Ok-clause-stands : goal.returns-in-Ok-clause-stands
returns-in-Ok-clause-stands c ids levels ends stands =
    end_stands ids levels ends c.args.self.now c.keep_end.new.self c.args.end.now c.in-Some.spot.ends stands c.in-Some.ensures.ends c.in-Ok.ensures.ends c.in-Ok.ensures.switches c.in-Ok.ensures.ids c.in-Ok.ensures.levels
