use Rattle.std.proofs.Common.{◌≡◌, ◌++◌, map}
use Rattle.grid_sparse.specs.Options.{present}
use Rattle.grid_outages.specs.Parts.{changed_part}
use Rattle.grid_outages.proofs.effect.list_changed.Given as goal

abbrev pub invariant-loop-place : goal.invariant-loop-place
invariant-loop-place l = l.levels ++ map changed_part l.place-iterator ≡ map changed_part (present l.changes)
