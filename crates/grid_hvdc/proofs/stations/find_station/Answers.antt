use Rattle.grid_hvdc.proofs.StationSites.{nowhere, stands, another, site_below}
use Rattle.grid_hvdc.proofs.stations.find_station.Goals as goal

pub returns-in-None-clause-site : goal.returns-in-None-clause-site
returns-in-None-clause-site c = nowhere c.args.structure.now c.args.id.now c.in-None.ensures

pub is_station_at-requires : goal.is_station_at-requires
is_station_at-requires c = site_below c.args.structure.now c.args.id.now 1 c.in-Some.site c.in-Some.ensures

pub returns-then-is_station_at-clause-site : goal.returns-then-is_station_at-clause-site
returns-then-is_station_at-clause-site c = stands c.args.structure.now c.args.id.now c.in-Some.site c.in-Some.ensures (cc)

pub returns-then-is_station_at-clause-level : goal.returns-then-is_station_at-clause-level
returns-then-is_station_at-clause-level c = site_below c.args.structure.now c.args.id.now 1 c.in-Some.site c.in-Some.ensures

pub returns-else-is_station_at-clause-site : goal.returns-else-is_station_at-clause-site
returns-else-is_station_at-clause-site c = another c.args.structure.now c.args.id.now c.in-Some.site c.in-Some.ensures (cc)
