use Rattle.std.proofs.Common.{◌≡◌, ◌++◌}
use Rattle.std.specs.Prelude.{flat_map}
use Rattle.grid_sparse.specs.Options.{present}
use Rattle.grid_outages.specs.Parts.{row_of}
use Rattle.grid_outages.proofs.effect.list_gone.Given as goal

abbrev pub invariant-loop-place : goal.invariant-loop-place
invariant-loop-place l = l.gone ++ flat_map (row_of l.table) l.place-iterator ≡ flat_map (row_of l.table) (present l.changes)
