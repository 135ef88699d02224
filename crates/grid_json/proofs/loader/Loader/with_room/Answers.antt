use Rattle.grid_json.proofs.BusLevels.{nothing_loaded}
use Rattle.grid_json.proofs.loader.Loader.with_room.Goals as goal

pub returns : goal.returns
returns c = nothing_loaded c.in_ok-with_room.field-0 c.empty.result c.args.id c.in_ok-with_room.ensures c.empty.ensures
