use Rattle.grid_json.specs.Loading.{bus_level_load, loaded_of}
use Rattle.grid_json.proofs.BusLevels.{leads_with, one_level_more}
use Rattle.grid_json.proofs.loader.Loader.add_bus_level.Goals as goal

pub returns : goal.returns
returns c =
    let old = c.args.self.now in
    leads_with c.load.new.structure c.load.result (bus_level_load c.args.level c.args.substation.now old.structure) (loaded_of old) c.args.level.id _ (one_level_more old.bus_levels c.add.new.self c.args.level.id c.in_ok-add.ensures.known) c.load.ensures
