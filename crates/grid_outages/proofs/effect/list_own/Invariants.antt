use Rattle.std.proofs.Common.{◌≡◌, ◌++◌}
use Rattle.std.specs.Prelude.{flat_map}
use Rattle.grid_sparse.specs.Options.{present}
use Rattle.grid_outages.specs.Parts.{own_at}
use Rattle.grid_outages.proofs.effect.list_own.Given as goal

abbrev pub invariant-loop-place : goal.invariant-loop-place
invariant-loop-place l = l.own ++ flat_map (own_at l.kept.links l.kept.ends l.changes) l.place-iterator ≡ flat_map (own_at l.kept.links l.kept.ends l.changes) (present l.changes)
