use Rattle.std.proofs.Common.{◌≡◌}
use Rattle.std.specs.Prelude.{◌==◌, if◌then◌else◌}
use Rattle.grid_slots.proofs.VariantSums.{first}
use Rattle.grid_slots.proofs.kept.renumber.Given as goal

abbrev pub invariant-loop-place : goal.invariant-loop-place
invariant-loop-place l = l.numbers.items ≡ first (λ n. if n == l.fn.from then l.fn.to else n) l.place
    l.initial.numbers.items
