use Rattle.grid_structure.proofs.Found.{level_below}
use Rattle.grid_structure.proofs.structure.Structure.level_of_end.Goals as goal

pub returns-in-Some-clause-below : goal.returns-in-Some-clause-below
returns-in-Some-clause-below c = level_below c.args.self.now c.args.end.now.level c.in-Some.place c.in-Some.ensures
