use Rattle.std.proofs.Common.{take}
use Rattle.std.specs.List.{AllZip}
use Rattle.grid_figures.specs.Outages.{AreFiguresUnder}
use Rattle.grid_figures.proofs.after.list_figures.Given as goal

abbrev pub invariant-loop-place : goal.invariant-loop-place
invariant-loop-place l = AllZip (AreFiguresUnder l.network.kept.now l.network.links.now) (take l.place l.outages) l.figures.items
