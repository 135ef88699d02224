use Rattle.std.proofs.Common.{refl, sym}
use Rattle.grid_core.proofs.Removals.{powered_counts}
use Rattle.grid_core.proofs.PowerRequests.{found_powered}
use Rattle.grid_core.proofs.editing.find_counted.Goals as goal

pub returns : goal.returns
returns c = record { placed = c.in_ok-level.placed.now; at = sym c.in_ok-level.ensures.found; node_is = refl; counts_is = sym c.in_ok-counted.ensures }

pub returns-in_err-counted : goal.returns-in_err-counted
returns-in_err-counted c =
    absurd (powered_counts c.args.structure.now c.args.id.now c.in_ok-level.placed.now (found_powered c.args.structure.now c.args.id.now c.in_ok-level.level c.in_ok-level.placed.now (sym c.in_ok-level.ensures.found)) (sym c.in_err-counted.ensures))
