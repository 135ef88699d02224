use Rattle.grid_placed.proofs.BusViews.{views_correspond, records_are}
use Rattle.grid_placed.proofs.laws.bus_views_correspond.Goals as goal

pub returns : goal.returns
returns c = record { views = views_correspond; records = records_are }
