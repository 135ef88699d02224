use Rattle.grid_core.proofs.BySlot.{nothing_so}
use Rattle.grid_core.proofs.kept.Kept.none.Goals as goal

pub returns : goal.returns
returns c net variants = nothing_so net variants _ c.new.ensures.items c.none.ensures
