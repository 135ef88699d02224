use Rattle.std.proofs.Common.{◌≡◌, not, map, filter, take}
use Rattle.grid_unions.specs.Sweep.{pair_at}
use Rattle.grid_unions.specs.Halves.{is_marked, with_joined}
use Rattle.grid_unions.proofs.sweeps.join_unmarked.Given as goal

abbrev pub invariant-loop-place : goal.invariant-loop-place
invariant-loop-place l = record {
  rest : l.rest.items ≡ filter (is_marked l.marks) (take l.place-index l.pending);
  joined : l.summed ≡ with_joined l.fn.summed (map (pair_at l.common) (filter (λ x. not (is_marked l.marks x)) (take l.place-index l.pending)));
}
