use Rattle.grid_structure.specs.Sites.{find_switch}
use Rattle.grid_structure.proofs.SwitchRemovals.{from_spot}
use Rattle.grid_core.proofs.touched.level_of_switch.Goals as goal

pub returns-in-Some : goal.returns-in-Some
returns-in-Some c = (c.in-Some.at.place, from_spot (find_switch c.args.structure.now c.args.id.now) c.in-Some.at c.in-Some.ensures)
