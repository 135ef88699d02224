use Rattle.std.proofs.Common.{sym, arith}
use Rattle.grid_screen.proofs.Clearings.{switch_read, level_missing, switch_missing}
use Rattle.grid_screen.proofs.write.id_at.Goals as goal

pub returns-then-at-level_count : goal.returns-then-at-level_count
returns-then-at-level_count c =
    sym (level_missing c.args.structure.now c.args.at.now (omega (arith, c.if-at-level_count.true, c.level_count.ensures)))

pub returns-then-at-switch_count : goal.returns-then-at-switch_count
returns-then-at-switch_count c =
    sym (switch_missing c.args.structure.now c.args.at.now c.level-level.result.now c.level-level.ensures (omega (arith, c.if-at-switch_count.true, c.switch_count.ensures)))

pub returns : goal.returns
returns c = sym (switch_read c.args.structure.now c.args.at.now c.level-level.result.now c.switch.result.now c.level-level.ensures c.switch.ensures)
