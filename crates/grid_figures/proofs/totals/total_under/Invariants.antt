use Rattle.std.proofs.Common.{take, length}
use Rattle.grid_figures.specs.Outages.{sums_before}
use Rattle.grid_figures.specs.Networks.{AreTotals}
use Rattle.grid_figures.proofs.totals.total_under.Given as goal

abbrev pub invariant-loop-changed : goal.invariant-loop-changed
invariant-loop-changed l = AreTotals (sums_before l.kept (take l.changed-index l.levels) (length l.kept)) l.totals
