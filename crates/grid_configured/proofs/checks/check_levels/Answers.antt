use Rattle.std.proofs.Common.{[], sym, subst, take}
use Rattle.grid_lemmas.proofs.Lists.{take_next}
use Rattle.grid_configured.specs.Checks.{ids_of, level_check}
use Rattle.grid_configured.specs.Standing.{Stands}
use Rattle.grid_configured.proofs.CheckLoops.{ends, goes_on, is_done, taken}
use Rattle.grid_configured.proofs.checks.check_levels.Goals as goal

pub returns-in-Err-clause-check : goal.returns-in-Err-clause-check
returns-in-Err-clause-check c =
    let levels = c.args.levels.now in
    let i = c.loop-i.i in
    ends level_check levels i c.index-levels-i.result _ c.loop-i-test.true c.index-levels-i.is c.loop-i.invariant.left c.in-Err.e c.under_position.result
    (c.in-Err.ensures.check (take i levels) c.loop-i.invariant.stands (taken levels i c.loop-i-test.true)) c.under_position.ensures

pub loop-i-preserved : goal.loop-i-preserved
loop-i-preserved c =
    let levels = c.args.levels.now in
    let i = c.loop-i.i in
    let level = c.index-levels-i.result in
    record {
      stands = subst (λ z. Stands (ids_of z) z [] c.check_level.new.self) (sym (take_next levels i level c.loop-i-test.true c.index-levels-i.is)) (c.in-Ok.ensures.stands (take i levels) c.loop-i.invariant.stands);
      few = c.in-Ok.ensures.few;
      left = goes_on level_check levels i level _ c.loop-i-test.true c.index-levels-i.is c.loop-i.invariant.left (c.in-Ok.ensures.check (take i levels) c.loop-i.invariant.stands (taken levels i c.loop-i-test.true));
    }

pub returns-clause-check : goal.returns-clause-check
returns-clause-check c = is_done level_check c.args.levels.now c.loop-i.i _ c.loop-i-test.false c.loop-i.invariant.left
