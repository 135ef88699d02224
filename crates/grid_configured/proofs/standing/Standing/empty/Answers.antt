use Rattle.grid_configured.proofs.Levels.{nothing_stands}
use Rattle.grid_configured.proofs.standing.Standing.empty.Goals as goal

pub returns-clause-stands : goal.returns-clause-stands
returns-clause-stands c = nothing_stands c.empty.result c.new.result c.new-2.result c.empty.ensures c.new.ensures.empty c.new-2.ensures.empty
