use Rattle.std.proofs.Common.{take}
use Rattle.grid_screen.specs.Alike.{AreAlike}
use Rattle.grid_screen.proofs.alike.find_alike.Given as goal

abbrev pub invariant-loop-contingency : goal.invariant-loop-contingency
invariant-loop-contingency l = AreAlike (take l.contingency-index l.list) l.firsts l.groups.items
