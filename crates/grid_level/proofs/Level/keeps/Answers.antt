use Rattle.grid_level.proofs.LevelReaders.{keeps_limits}
use Rattle.grid_level.proofs.Level.keeps.Goals as goal

pub returns : goal.returns
returns c = rw (← c.self.view_is) (keeps_limits _ _ c.self.invariant)
