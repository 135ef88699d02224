use Rattle.std.proofs.Common.{◌≡◌, sym, ap, ◌∙◌, ◌<◌, length, arith, Some, None}
use Rattle.std.specs.Prelude.{slice_set}
use Rattle.grid_structure.proofs.Places.{length-slice_set}
use Rattle.grid_outages.proofs.ShownLevels.{at_first, passed_over, all_passed, over_some, fits_here}
use Rattle.grid_outages.proofs.outage.look_at_all.Goals as goal

pub loop-place-init : goal.loop-place-init
loop-place-init c = record { half = at_first c.args.powers.now.listed c.args.changes.now c.requires; count = c.len-count.ensures }
