use Rattle.std.proofs.Common.{[]}
use Rattle.grid_figures.specs.Outages.{sums_before}
use Rattle.grid_figures.specs.Networks.{AreTotals}
use Rattle.grid_figures.proofs.totals.total_kept.Given as goal

abbrev pub invariant-loop-sums : goal.invariant-loop-sums
invariant-loop-sums l = AreTotals (sums_before l.kept [] l.sums-index) l.totals
