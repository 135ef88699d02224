use Rattle.std.proofs.Common.{◌≡◌, take, false}
use Rattle.grid_slots.specs.Kept.{any_rows_list}
use Rattle.grid_slots.proofs.kept.any_listing.Given as goal

abbrev pub invariant-loop-states : goal.invariant-loop-states
invariant-loop-states l = any_rows_list (take l.states-index l.all) l.level l.node ≡ false
