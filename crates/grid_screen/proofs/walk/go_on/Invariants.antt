use Rattle.grid_screen.specs.Walks.{IsOpen, Reaches}
use Rattle.grid_screen.proofs.walk.go_on.Given as goal

abbrev pub invariant-loop-turn : goal.invariant-loop-turn
invariant-loop-turn l = record {
  open_still : IsOpen l.scene l.walk;
  reaches : Reaches l.scene l.initial.walk.touched l.walk.touched;
}
