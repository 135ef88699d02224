use Rattle.std.proofs.Common.{◌≡◌, pos, take, ◌+ℤ◌}
use Rattle.std.specs.Prelude.{fold}
use Rattle.grid_unions.specs.declared.summed.Sums.{Sums}
use Rattle.grid_figures.proofs.totals.sum_all.Given as goal

abbrev pub invariant-loop-bus : goal.invariant-loop-bus
invariant-loop-bus l = record {
  load : l.total.load ≡ fold (λ total (s : Sums). total +ℤ s.load) (pos 0) (take l.bus-index l.sums);
  generation : l.total.generation ≡ fold (λ total (s : Sums). total +ℤ s.generation) (pos 0) (take l.bus-index l.sums);
}
