use Rattle.std.proofs.Common.{refl, sym}
use Rattle.grid_json.specs.Loading.{next_node}
use Rattle.grid_json.proofs.BusPlaces.{level_got, no_level}
use Rattle.grid_json.proofs.bus_load.next_node.Goals as goal

pub returns-in-Some : goal.returns-in-Some
unfolding next_node
returns-in-Some c = rw (level_got c.args.structure.now c.args.level.now c.in-Some.place c.level.result.now (sym c.in-Some.ensures.place) c.level.ensures) c.node_count.ensures

pub returns-in-None : goal.returns-in-None
unfolding next_node
returns-in-None c = rw (no_level c.args.structure.now c.args.level.now (sym c.in-None.ensures.place)) refl
