use Rattle.std.proofs.Common.{sym, ◌∙◌, subst, arith}
use Rattle.grid_json.specs.Reading.{Fails}
use Rattle.grid_configured.specs.Checks.{switch_check}
use Rattle.grid_configured.proofs.CheckLoops.{goes_on, ends, is_done}
use Rattle.grid_configured.proofs.LevelParts.{switch_as, switches_known}
use Rattle.grid_configured.proofs.contents.check_switches.Goals as goal

pub returns-in-Err-clause-check : goal.returns-in-Err-clause-check
returns-in-Err-clause-check c =
    let ids = c.args.ids.now in
    let buses = c.args.buses.now in
    let switches = c.args.switches.now in
    let s = c.index-switches-i.result in
    let same = switch_as ids c.loop-i.ids buses c.args.total switches c.loop-i.i s c.loop-i-test.true c.index-switches-i.is c.loop-i.invariant.known in
    ends (switch_check ids buses c.args.total) switches c.loop-i.i s _ c.loop-i-test.true c.index-switches-i.is c.loop-i.invariant.left c.in-Err.e c.under_position.result (subst (Fails c.in-Err.e) (sym same) c.in-Err.ensures.check) c.under_position.ensures

pub loop-i-preserved : goal.loop-i-preserved
loop-i-preserved c =
    let ids = c.args.ids.now in
    let buses = c.args.buses.now in
    let switches = c.args.switches.now in
    let s = c.index-switches-i.result in
    let same = switch_as ids c.loop-i.ids buses c.args.total switches c.loop-i.i s c.loop-i-test.true c.index-switches-i.is c.loop-i.invariant.known in
    record {
      known = switches_known ids c.loop-i.ids buses c.args.total switches c.loop-i.i s c.loop-i-test.true c.index-switches-i.is c.loop-i.invariant.known c.check_switch.new.ids c.in-Ok.ensures.known;
      few = omega (arith, c.in-Ok.ensures.room.0);
      room = omega (arith, c.in-Ok.ensures.room.1);
      left = goes_on (switch_check ids buses c.args.total) switches c.loop-i.i s _ c.loop-i-test.true c.index-switches-i.is c.loop-i.invariant.left (same ∙ c.in-Ok.ensures.check);
    }

pub returns-clause-check : goal.returns-clause-check
returns-clause-check c = is_done (switch_check c.args.ids.now c.args.buses.now c.args.total) c.args.switches.now c.loop-i.i _ c.loop-i-test.false c.loop-i.invariant.left
