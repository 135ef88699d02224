use Rattle.std.proofs.Common.{take}
use Rattle.grid_screen.specs.Started.{AreStarts}
use Rattle.grid_screen.proofs.part.list_starts.Given as goal

abbrev pub invariant-loop-contingency : goal.invariant-loop-contingency
invariant-loop-contingency l = AreStarts l.case l.kept (take l.contingency-index l.part) l.outages.items l.ends.items
