use Rattle.std.proofs.Common.{◌≡◌, ◌++◌}
use Rattle.grid_level.specs.Passing.{positioned}
use Rattle.grid_states.specs.Rows.{row_at}
use Rattle.grid_screen.specs.Faults.{trips}
use Rattle.grid_screen.specs.Walks.{hits_in}
use Rattle.grid_screen.proofs.BreakerTrips.{spots_before}
use Rattle.grid_screen.proofs.tripped.push_tripped.Given as goal

abbrev pub invariant-loop-index : goal.invariant-loop-index
invariant-loop-index l =
    l.tripped ≡ l.initial.tripped ++ spots_before (trips l.scene.stuck l.hit (hits_in l.touched)) l.place (positioned l.touched.level.now (row_at l.scene.opened l.place)).switches l.index
