use Rattle.std.proofs.Common.{arith}
use Rattle.grid_json.proofs.BusLoops.{bus_in_range, bus_goes_on, bus_ends, buses_done}
use Rattle.grid_json.proofs.bus_load.add_buses.Goals as goal

pub returns-in-Err : goal.returns-in-Err
returns-in-Err c =
    let l = c.loop-place in
    bus_ends c.args.buses.now c.args.level.now l.place l.structure _ l.invariant.0 c.index-buses-place.result c.in-Err.e c.under_position.result c.loop-place-test.true c.index-buses-place.is c.in-Err.ensures c.under_position.ensures

pub loop-place-preserved : goal.loop-place-preserved
loop-place-preserved c =
    let l = c.loop-place in
    let bus = c.index-buses-place.result in (
      bus_goes_on c.args.buses.now c.args.level.now l.place l.structure _ l.invariant.0 bus c.add_bus.new.structure c.loop-place-test.true c.index-buses-place.is c.in-Ok.ensures,
      omega (arith, bus_in_range l.structure c.add_bus.new.structure bus c.args.level.now l.place c.in-Ok.ensures),
    )

pub returns : goal.returns
returns c = let l = c.loop-place in buses_done c.args.buses.now c.args.level.now l.place l.structure _ l.invariant.0 c.loop-place-test.false
