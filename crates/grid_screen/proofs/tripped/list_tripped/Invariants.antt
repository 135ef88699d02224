use Rattle.std.proofs.Common.{◌≡◌, ◌++◌, flat_map}
use Rattle.grid_sparse.specs.Options.{AreThere}
use Rattle.grid_screen.specs.Opening.{network_trips}
use Rattle.grid_screen.proofs.BreakerTrips.{trips_of}
use Rattle.grid_screen.proofs.tripped.list_tripped.Given as goal

abbrev pub invariant-loop-place : goal.invariant-loop-place
invariant-loop-place l = record {
  so_far : l.tripped ++ flat_map (trips_of l.scene l.hit) l.place-iterator ≡ network_trips l.scene l.hit l.touched;
  there : AreThere l.touched l.place-iterator;
}
