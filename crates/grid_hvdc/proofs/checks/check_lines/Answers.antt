use Rattle.grid_hvdc.proofs.LineChecks.{ids_next, stations_next, goes_on, ends, is_done}
use Rattle.grid_hvdc.proofs.checks.check_lines.Goals as goal

pub returns-in-Err : goal.returns-in-Err
returns-in-Err c =
    let net = c.args.structure.now in
    let lines = c.args.lines.now in
    ends net lines c.loop-i.i c.index-lines-i.result c.loop-i.named.ids c.loop-i.named.stations _ c.loop-i-test.true c.index-lines-i.is c.loop-i.invariant.ids c.loop-i.invariant.stations c.loop-i.invariant.left
    c.in-Err.e c.under_position.result c.in-Err.ensures.check c.under_position.ensures

pub loop-i-preserved : goal.loop-i-preserved
loop-i-preserved c =
    let net = c.args.structure.now in
    let lines = c.args.lines.now in
    let i = c.loop-i.i in
    let line = c.index-lines-i.result in
    record {
      ids = ids_next lines i line c.loop-i.named.ids _ c.loop-i-test.true c.index-lines-i.is c.loop-i.invariant.ids c.in-Ok.ensures.ids;
      stations = stations_next lines i line c.loop-i.named.stations _ c.loop-i-test.true c.index-lines-i.is c.loop-i.invariant.stations c.in-Ok.ensures.stations;
      left = goes_on net lines i line c.loop-i.named.ids c.loop-i.named.stations _ c.loop-i-test.true c.index-lines-i.is c.loop-i.invariant.ids c.loop-i.invariant.stations c.loop-i.invariant.left c.in-Ok.ensures.check;
    }

pub returns : goal.returns
returns c = is_done c.args.structure.now c.args.lines.now c.loop-i.i _ c.loop-i-test.false c.loop-i.invariant.left
