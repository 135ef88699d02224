use Rattle.grid_hvdc.proofs.LineChecks.{line_last, stations_known}
use Rattle.grid_hvdc.proofs.checks.Named.check_line.Goals as goal

pub returns-clause-check : goal.returns-clause-check
returns-clause-check c =
    line_last c.args.structure.now c.args.self.now.ids c.args.self.now.stations c.check_station.new.stations c.args.line.now c.check_station-2.result
    c.in_ok-check_id.ensures.check c.in_ok-check_station.ensures.check c.in_ok-check_station.ensures.named c.check_station-2.ensures.check

pub returns-clause-stations : goal.returns-clause-stations
returns-clause-stations c =
    stations_known c.check_station-2.result c.args.self.now.stations c.check_station.new.stations c.check_station-2.new.stations c.args.line.now.station1 c.args.line.now.station2
    c.in_ok-check_station.ensures.named c.check_station-2.ensures.named
