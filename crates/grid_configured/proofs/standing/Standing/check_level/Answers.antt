use Rattle.std.proofs.Common.{◌∙◌}
use Rattle.grid_configured.specs.Checks.{level_check}
use Rattle.grid_configured.proofs.LevelParts.{fails_on}
use Rattle.grid_configured.proofs.Levels.{level_as, level_fails, level_stands, level_wrong}
use Rattle.grid_configured.proofs.standing.Standing.check_level.Goals as goal

pub returns-in_err-check_level_itself-clause-check : goal.returns-in_err-check_level_itself-clause-check
returns-in_err-check_level_itself-clause-check c earlier stands at =
    let e = c.in_err-check_level_itself.field-0.0 in
    fails_on c.from_residual.result e (level_check earlier c.args.level.now) c.from_residual.ensures.1 (level_wrong earlier c.args.self.now c.args.level.now stands c.args.place e at c.in_err-check_level_itself.ensures.check)

pub returns-in_err-check_contents-clause-check : goal.returns-in_err-check_contents-clause-check
returns-in_err-check_contents-clause-check c earlier stands at =
    let e = c.in_err-check_contents.field-0.0 in
    let id = c.in_ok-check_level_itself.ensures in
    fails_on c.from_residual-in_err-check_contents.result e (level_check earlier c.args.level.now) c.from_residual-in_err-check_contents.ensures.1
    (level_fails earlier c.args.self.now c.args.level.now stands c.check_level_itself.new.ids id.known e c.args.place at id.check c.in_err-check_contents.ensures.check)

pub returns-in-Ok-clause-check : goal.returns-in-Ok-clause-check
returns-in-Ok-clause-check c earlier stands at =
    let id = c.in_ok-check_level_itself.ensures in
    level_as earlier c.args.self.now c.args.level.now stands c.check_level_itself.new.ids id.known c.args.place at id.check ∙ c.in_ok-check_contents.ensures.check

pub returns-in-Ok-clause-stands : goal.returns-in-Ok-clause-stands
returns-in-Ok-clause-stands c earlier stands =
    let id = c.in_ok-check_level_itself.ensures in
    let parts = c.in_ok-check_contents.ensures in
    level_stands earlier c.args.self.now c.args.level.now stands c.check_level_itself.new.ids id.known c.check_contents.new.own c.check_contents.new.ids c.keep_level.new.self id.new parts.known parts.own c.in-Ok.ensures.levels c.in-Ok.ensures.switches c.in-Ok.ensures.ids c.in-Ok.ensures.ends
