use Rattle.grid_core.specs.Kept.{AreKnown}
use Rattle.grid_core.proofs.kept.SlotKept.empty.Goals as goal

pub returns : goal.returns
unfolding AreKnown
returns c net opened = record { made = c.empty.ensures net; known = tt }
