-- What it costs to make the labels of a level anew.
use Rattle.std.proofs.Common.{◌≡◌, refl, ap, ◌∙◌, ℕ, ◌+◌, ◌*◌, ◌≤◌, ◌&&◌, not, Bool, false, List, [], ◌∷◌, length, Option, Some, arith}
use Rattle.std.specs.Prelude.{count_by}
use Rattle.std.specs.Bool.{beq}
use Rattle.grid_graph.specs.Components.{places}
use Rattle.grid_level.specs.Passing.{nodes}
use Rattle.grid_bench.specs.Contents.{Content}
use Rattle.grid_bench.specs.Costs.{flag_at, differs_at, count_changes, IsFar, CostsAtMost}
use Rattle.grid_bench.proofs.FlagUpdates.{beq_refl}

none_counted : (p : ℕ → Bool) (xs : List ℕ) → ((x : ℕ) → p x ≡ false) → count_by p xs ≡ 0
none_counted p [] h = refl
none_counted p (x ∷ xs) h = rw (h x) (none_counted p xs h)

-- no flag differs from itself
none_differ : (c : Content) → count_changes c c ≡ 0
unfolding count_changes differs_at
none_differ c = none_counted (differs_at c c) (places (length c.level.switches)) (λ place.
    ap (λ z. not (z && beq (flag_at c.retained place) (flag_at c.retained place))) (beq_refl (flag_at c.opened place)) ∙ ap not (beq_refl (flag_at c.retained place)))

-- within its bounds, where nothing near was kept
pub built_costs : (old : Option Content) (new : Content) (before after : ℕ) → IsFar old new → after ≤ before + 4 * length (nodes new.level) → CostsAtMost old new before after
built_costs old new before after far cost = record {
  equal = λ same. absurd (omega (arith, far new same refl, none_differ new));
  changed = λ c is e near. absurd (omega (arith, far c is e, near));
  built = λ other. cost;
}
