use Rattle.std.proofs.Common.{[], sym, ◌∙◌, subst, arith}
use Rattle.grid_json.specs.Reading.{Fails}
use Rattle.grid_configured.specs.Checks.{bus_check}
use Rattle.grid_configured.proofs.CheckLoops.{goes_on, ends, is_done}
use Rattle.grid_configured.proofs.LevelParts.{bus_as, buses_known}
use Rattle.grid_configured.proofs.contents.check_buses.Goals as goal

pub returns-in-Err-clause-check : goal.returns-in-Err-clause-check
returns-in-Err-clause-check c =
    let ids = c.args.ids.now in
    let buses = c.args.buses.now in
    let bus = c.index-buses-i.result in
    let same = bus_as ids c.loop-i.ids buses c.loop-i.i bus c.loop-i-test.true c.index-buses-i.is c.loop-i.invariant.known in
    ends (bus_check ids) buses c.loop-i.i bus _ c.loop-i-test.true c.index-buses-i.is c.loop-i.invariant.left c.in-Err.e c.under_position.result (subst (Fails c.in-Err.e) (sym same) c.in-Err.ensures.check) c.under_position.ensures

pub loop-i-preserved : goal.loop-i-preserved
loop-i-preserved c =
    let ids = c.args.ids.now in
    let buses = c.args.buses.now in
    let bus = c.index-buses-i.result in
    let same = bus_as ids c.loop-i.ids buses c.loop-i.i bus c.loop-i-test.true c.index-buses-i.is c.loop-i.invariant.known in
    record {
      known = buses_known ids c.loop-i.ids buses c.loop-i.i bus c.loop-i-test.true c.index-buses-i.is c.loop-i.invariant.known c.check_bus.new.ids c.in-Ok.ensures.known;
      own = buses_known [] c.loop-i.own buses c.loop-i.i bus c.loop-i-test.true c.index-buses-i.is c.loop-i.invariant.own c.add.new.self c.in_ok-add.ensures.known;
      few = omega (arith, c.in-Ok.ensures.room);
      left = goes_on (bus_check ids) buses c.loop-i.i bus _ c.loop-i-test.true c.index-buses-i.is c.loop-i.invariant.left (same ∙ c.in-Ok.ensures.check);
    }

pub returns-clause-check : goal.returns-clause-check
returns-clause-check c = is_done (bus_check c.args.ids.now) c.args.buses.now c.loop-i.i _ c.loop-i-test.false c.loop-i.invariant.left
